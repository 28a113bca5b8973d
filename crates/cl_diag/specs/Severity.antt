-- How severe a diagnostic is (LSP 3.17, DiagnosticSeverity).
use Rattle.std.specs.Prelude.{ℕ, ◌==◌, if◌then◌else◌}

-- tokens behind a complete directive, fault 7, are a warning, and all else is an error
abbrev pub severity : ℕ → ℕ
severity number = if number == 7 then 2 else 1
