-- Runs without names of macros, and what is told of a run.
use Rattle.std.proofs.Common.{◌≡◌, ℕ, suc, ◌+◌, Bool, true, false, List, [], ◌∷◌, ◌++◌, map, Option, None, refl, sym, ap, ◌∙◌, arith}
use Rattle.std.specs.Prelude.{if◌then◌else◌, ◌&&◌, All}
use Rattle.cl_base.specs.declared.macros.Macro.{Macro}
use Rattle.cl_base.specs.declared.macros.MacroNo.{MacroNo}
use Rattle.cl_base.specs.declared.token.PpToken.{PpToken}
use Rattle.cl_base.specs.declared.token.Span.{Span}
use Rattle.cl_macro.specs.Rules.{Rules}
use Rattle.cl_macro.specs.declared.expanded.Expanded.{Expanded}
use Rattle.cl_macro.specs.declared.word.Word.{Word}
use Rattle.cl_macro.specs.declared.note.Note.TheVariants as note
use Rattle.cl_macro.specs.declared.note.Told.{Told}
use Rattle.cl_macro.specs.Words.{fresh, looks, is_ident}
use Rattle.cl_macro.specs.Turns.{Stays, turn, turn_of}
use Rattle.cl_macro.specs.Replacing.{stays, done, Expands, end, whole, span_of, all_told}
use Rattle.cl_macro.specs.Expansions.{IsExpansion, IsPlain, token_of, faults_of, looks_of, uses_of}
use Rattle.cl_macro.proofs.Standing.{looks_zero, replacements_more}
use Rattle.cl_macro.proofs.Unique.{one_expansion}
use Rattle.cl_macro.proofs.Existing.{some_expansion}

no_macro : (b : Bool) (m : Option Macro) → (b ≡ true → m ≡ None) → (if b && true then m else None) ≡ None
no_macro true m h = h refl
no_macro false m h = refl

pub plain_stays : (macros : List ℕ → Option Macro) (t : PpToken) (more : List Word) → (is_ident t.kind ≡ true → macros t.text ≡ None) → turn macros (fresh t) more ≡ Stays
plain_stays macros t more h = ap (λ (m : Option Macro). turn_of m more) (no_macro (is_ident t.kind) (macros t.text) h)

no_faults : (b : Bool) (name : List ℕ) (before : ℕ) (at : Span) (ts : List Told) → faults_of (all_told before at ((if b then note.Looked name ∷ [] else []) ++ []) ++ ts) ≡ faults_of ts
no_faults true name before at ts = refl
no_faults false name before at ts = refl

no_uses : (events : List ℕ → Option MacroNo) (b : Bool) (name : List ℕ) (before : ℕ) (at : Span) (ts : List Told)
    → uses_of events (all_told before at ((if b then note.Looked name ∷ [] else []) ++ []) ++ ts) ≡ uses_of events ts
no_uses events true name before at ts = refl
no_uses events false name before at ts = refl

tokens_back : (run : List PpToken) → map token_of (map fresh run) ≡ run
tokens_back [] = refl
tokens_back (t ∷ ts) = ap (λ us. t ∷ us) (tokens_back ts)

module _ (rules_at : Span → Rules) (events : List ℕ → Option MacroNo) where
  record Quiet (before : ℕ) (run : List PpToken) : Type 0 where
    told : List Told
    expands : Expands rules_at before (map fresh run) (map fresh run) told
    faults : faults_of told ≡ []
    uses : uses_of events told ≡ []

  quiet : (before : ℕ) (run : List PpToken) → All (IsPlain rules_at) run → Quiet before run
  quiet before [] h = record { told = []; expands = end before; faults = refl; uses = refl }
  quiet before (t ∷ ts) h =
      let q = quiet (before + 1) ts (λ k d l. h (suc k) d (omega arith)) in
      let at = span_of (fresh t) (looks (fresh t) ++ []) in record {
        told = all_told before at (looks (fresh t) ++ []) ++ q.told;
        expands = whole before (fresh t) (map fresh ts) (fresh t ∷ []) (map fresh ts) (map fresh ts) (looks (fresh t) ++ []) q.told
            (stays (fresh t) [] (map fresh ts) [] (map fresh ts) [] (plain_stays (rules_at t.at).macros t (map fresh ts) (h 0 t (omega arith))) (done (map fresh ts)))
            (let z = looks_zero (fresh t) in let k = replacements_more (looks (fresh t)) [] in omega arith) q.expands;
        faults = no_faults (is_ident t.kind) t.text before at q.told ∙ q.faults;
        uses = no_uses events (is_ident t.kind) t.text before at q.told ∙ q.uses;
      }

  pub plain_run : (run : List PpToken) (all : Expanded) → All (IsPlain rules_at) run → IsExpansion rules_at events run all
      → (all.tokens ≡ run) × (all.faults ≡ []) × (all.uses ≡ [])
  plain_run run all h e =
      let q = quiet 0 run h in
      let o = one_expansion rules_at e.expands (map fresh run) q.told q.expands in
      (e.tokens ∙ ap (map token_of) o.0 ∙ tokens_back run, e.faults ∙ ap faults_of o.1 ∙ q.faults, e.uses ∙ ap (uses_of events) o.1 ∙ q.uses)

  pub one_expanded : (run : List PpToken) (x y : Expanded) → IsExpansion rules_at events run x → IsExpansion rules_at events run y → x ≡ y
  one_expanded run x y d e =
      let o = one_expansion rules_at d.expands e.words e.told e.expands in
      let t : x.tokens ≡ y.tokens = d.tokens ∙ ap (map token_of) o.0 ∙ sym e.tokens in
      let f : x.faults ≡ y.faults = d.faults ∙ ap faults_of o.1 ∙ sym e.faults in
      let l : x.looked ≡ y.looked = d.looked ∙ ap looks_of o.1 ∙ sym e.looked in
      let u : x.uses ≡ y.uses = d.uses ∙ ap (uses_of events) o.1 ∙ sym e.uses in
      λ i. record { tokens = t i; faults = f i; looked = l i; uses = u i }

  pub some_expanded : (run : List PpToken) → (all : Expanded) × IsExpansion rules_at events run all
  some_expanded run = let s = some_expansion rules_at 0 (map fresh run) in (
    record { tokens = map token_of s.0; faults = faults_of s.1; looked = looks_of s.1; uses = uses_of events s.1 },
    record { words = s.0; told = s.1; expands = s.2; tokens = refl; faults = refl; looked = refl; uses = refl },
  )
