-- The headers that the code keeps.
use Rattle.std.specs.Prelude.{ℕ, List, IfSome}
use Rattle.std.specs.Cmp.Lexicographic.{slice_cmp}
use Rattle.std.specs.Ordering.{nat_cmp}
use Rattle.std.specs.BTreeMap.{get}
use Rattle.cl_base.specs.declared.headers.Known.{Known}
use Rattle.cl_base.specs.declared.headers.Known.TheVariants.{Found, Absent, Failed, Unknown}
use Rattle.cl_pp.specs.declared.made.Opened.{Opened}
use Rattle.cl_pp.specs.declared.shelf.Shelf.{Shelf}
use Rattle.cl_pp.specs.code.Reaching.{IsLaid}

-- these are the tokens and lines of the text that is known
abbrev pub IsOfHeader : Known → Opened → Type 0
IsOfHeader (Found text) opened = IsLaid text opened
IsOfHeader Absent opened = ⊥
IsOfHeader Failed opened = ⊥
IsOfHeader Unknown opened = ⊥

-- each is that of the text that its path is known to have
abbrev pub IsSound : (List ℕ → Known) → Shelf → Type 0
IsSound known shelf = (path : List ℕ) → IfSome (get (slice_cmp nat_cmp) shelf.headers path) (λ opened. IsOfHeader (known path) opened.value)
