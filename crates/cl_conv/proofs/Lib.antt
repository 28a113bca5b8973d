pub mod ConversionLemmas
pub mod NormalForms
