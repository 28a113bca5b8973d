-- A step of the walk over the lines.
use Rattle.std.proofs.Common.{◌≡◌, ℕ, zero, suc, ◌+◌, ◌<◌, ◌≤◌, Bool, true, false, if◌then◌else◌, ◌&&◌, nat_lt, List, [], ◌∷◌, ◌++◌, Option, Some, None, refl, sym, ap, ◌∙◌, subst, take, drop, length, arith, add-one, append_assoc, get_or, drop-cons}
use Rattle.std.specs.Prelude.{reverse}
use Rattle.std.proofs.lemmas.Bool.{and_parts}
use Rattle.std.proofs.lemmas.List.{take_more, map-append, reverse-append}
use Rattle.std.proofs.lemmas.Bool.Decides.{nat_tests}
use Rattle.cl_base.specs.declared.token.Token.{Token}
use Rattle.cl_base.specs.declared.token.Fault.{Fault}
use Rattle.cl_cond.specs.declared.mark.Condition.{Condition}
use Rattle.cl_cond.specs.declared.mark.Condition.TheVariants.{If, IfDef, IfNDef, Elif, Else}
use Rattle.cl_cond.specs.declared.mark.Part.{Part}
use Rattle.cl_cond.specs.declared.mark.Part.TheVariants.{Line, Branch, End}
use Rattle.cl_cond.specs.declared.mark.Mark.{Mark}
use Rattle.cl_cond.specs.declared.trouble.Trouble.{Trouble}
use Rattle.cl_base.specs.Tokens.{is_hash}
use Rattle.cl_cond.specs.Lines.{Lines, IsLine, named, token_at}
use Rattle.cl_cond.specs.Sections.{trouble_of, parts, kept, kept_line, faults_of, fault_list}
use Rattle.cl_cond.specs.code.Nesting.{sections, after_line, ends_of, ends_after, trouble_by, HasName}
use Rattle.cl_cond.proofs.Following.{past, trouble_known}

pub drop_item : (lines : List Mark) (i : ℕ) (d : Mark) → i < length lines → drop i lines ≡ get_or lines i d ∷ drop (i + 1) lines
drop_item lines i d l = rw (add-one, drop-cons lines i d) refl

pub past_more : (lines : List Mark) (i : ℕ) (d : Mark) → i < length lines → past lines (i + 1) ≡ (get_or lines i d).part ∷ past lines i
past_more lines i d l =
    let x : Mark = get_or lines i d in
    ap (λ (xs : List Mark). reverse (parts xs)) (take_more lines i d l) ∙ ap reverse (map-append (λ (m : Mark). m.part) (take i lines) (x ∷ [])) ∙ reverse-append (parts (take i lines)) (x.part ∷ [])

pub ends_step : (p : Part) (after : List Part) → ends_after p (ends_of (p ∷ after)) ≡ ends_of after
ends_step Line after = refl
ends_step End after = refl
ends_step (Branch If) after = refl
ends_step (Branch IfDef) after = refl
ends_step (Branch IfNDef) after = refl
ends_step (Branch Elif) after = refl
ends_step (Branch Else) after = refl

-- what the code says of a line is what is wrong with it
pub trouble_there : (lines : List Mark) (i : ℕ) (d : Mark) (t : Option Trouble) (levels ends : List Bool) → i < length lines
    → levels ≡ sections (past lines i) → ends ≡ ends_of (parts (drop i lines)) → t ≡ trouble_by (get_or lines i d).part levels ends
    → t ≡ trouble_of (past lines i) (get_or lines i d) (drop (i + 1) lines)
trouble_there lines i d t levels ends l e f g =
    let x : Mark = get_or lines i d in
    let h : ends ≡ ends_of (x.part ∷ parts (drop (i + 1) lines)) = f ∙ ap (λ (xs : List Mark). ends_of (parts xs)) (drop_item lines i d l) in
    let k = trouble_known (past lines i) x.part (parts (drop (i + 1) lines)) in
    g ∙ ap (λ (s : List Bool). trouble_by x.part s ends) e ∙ ap (trouble_by x.part (sections (past lines i))) h ∙ sym k

pub levels_there : (lines : List Mark) (i : ℕ) (d : Mark) (levels new : List Bool) → i < length lines
    → levels ≡ sections (past lines i) → new ≡ after_line (get_or lines i d).part levels → new ≡ sections (past lines (i + 1))
levels_there lines i d levels new l e f = f ∙ ap (after_line (get_or lines i d).part) e ∙ ap sections (sym (past_more lines i d l))

pub ends_there : (lines : List Mark) (i : ℕ) (d : Mark) (ends new : List Bool) → i < length lines
    → ends ≡ ends_of (parts (drop i lines)) → new ≡ ends_after (get_or lines i d).part ends → new ≡ ends_of (parts (drop (i + 1) lines))
ends_there lines i d ends new l e f =
    f ∙ ap (ends_after (get_or lines i d).part) (e ∙ ap (λ (xs : List Mark). ends_of (parts xs)) (drop_item lines i d l)) ∙ ends_step (get_or lines i d).part (parts (drop (i + 1) lines))

pub marks_there : (lines : List Mark) (i : ℕ) (d : Mark) (t : Option Trouble) (marks new whole : List Mark) → i < length lines
    → marks ++ kept (past lines i) (drop i lines) ≡ whole → t ≡ trouble_of (past lines i) (get_or lines i d) (drop (i + 1) lines)
    → new ≡ marks ++ kept_line (get_or lines i d) t → new ++ kept (past lines (i + 1)) (drop (i + 1) lines) ≡ whole
marks_there lines i d t marks new whole l e f g =
    let x : Mark = get_or lines i d in
    let k : kept (past lines i) (drop i lines) ≡ kept_line x t ++ kept (past lines (i + 1)) (drop (i + 1) lines) =
    ap (kept (past lines i)) (drop_item lines i d l) ∙ ap (λ (u : Option Trouble). kept_line x u ++ kept (x.part ∷ past lines i) (drop (i + 1) lines)) (sym f)
    ∙ ap (λ (b : List Part). kept_line x t ++ kept b (drop (i + 1) lines)) (sym (past_more lines i d l)) in
    ap (λ (xs : List Mark). xs ++ kept (past lines (i + 1)) (drop (i + 1) lines)) g ∙ append_assoc marks _ _ ∙ ap (λ (xs : List Mark). marks ++ xs) (sym k) ∙ e

pub faults_there : (tokens : List Token) (lines : List Mark) (i : ℕ) (d : Mark) (t : Option Trouble) (faults new whole : List Fault) → i < length lines
    → faults ++ faults_of tokens (past lines i) (drop i lines) ≡ whole → t ≡ trouble_of (past lines i) (get_or lines i d) (drop (i + 1) lines)
    → new ≡ faults ++ fault_list tokens (get_or lines i d) t → new ++ faults_of tokens (past lines (i + 1)) (drop (i + 1) lines) ≡ whole
faults_there tokens lines i d t faults new whole l e f g =
    let x : Mark = get_or lines i d in
    let k : faults_of tokens (past lines i) (drop i lines) ≡ fault_list tokens x t ++ faults_of tokens (past lines (i + 1)) (drop (i + 1) lines) =
    ap (faults_of tokens (past lines i)) (drop_item lines i d l) ∙ ap (λ (u : Option Trouble). fault_list tokens x u ++ faults_of tokens (x.part ∷ past lines i) (drop (i + 1) lines)) (sym f)
    ∙ ap (λ (b : List Part). fault_list tokens x t ++ faults_of tokens b (drop (i + 1) lines)) (sym (past_more lines i d l)) in
    ap (λ (xs : List Fault). xs ++ faults_of tokens (past lines (i + 1)) (drop (i + 1) lines)) g ∙ append_assoc faults _ _ ∙ ap (λ (xs : List Fault). faults ++ xs) (sym k) ∙ e

-- ---- a directive's name

end_named : (b : Bool) (p : Part) → End ≡ (if b then p else Line) → b ≡ true
end_named true p e = refl
end_named false p e = cc

branch_named : (c : Condition) (b : Bool) (p : Part) → Branch c ≡ (if b then p else Line) → b ≡ true
branch_named c true p e = refl
branch_named c false p e = cc

any_name : (tokens : List Token) (line : Mark) (t : Option Trouble) → line.from + 1 < length tokens → HasName tokens line t
any_name tokens line None l = tt
any_name tokens line (Some t) l = l

hash_name : (tokens : List Token) (at : ℕ) (line : Mark) → IsLine tokens at line → (is_hash (token_at tokens at) && nat_lt (at + 1) line.to) ≡ true → line.from + 1 < length tokens
hash_name tokens at line h e =
    let both = and_parts (is_hash (token_at tokens at)) (nat_lt (at + 1) line.to) e in
    let l : at + 1 < line.to = grind (arith, nat_tests, both.1) in
    let w : line.to ≤ length tokens = h.ends.within in
    let f : line.from ≡ at = h.from in
    omega arith

named_by : (tokens : List Token) (at : ℕ) (line : Mark) (p : Part) (levels ends : List Bool) → line.part ≡ p → IsLine tokens at line → HasName tokens line (trouble_by p levels ends)
named_by tokens at line Line levels ends e h = tt
named_by tokens at line End levels ends e h = any_name tokens line _ (hash_name tokens at line h (end_named _ (named (token_at tokens (at + 1))) (sym e ∙ h.part)))
named_by tokens at line (Branch c) levels ends e h = any_name tokens line _ (hash_name tokens at line h (branch_named c _ (named (token_at tokens (at + 1))) (sym e ∙ h.part)))

named_at : (tokens : List Token) (at : ℕ) (lines : List Mark) (i : ℕ) (d : Mark) (levels ends : List Bool) → Lines tokens at lines → i < length lines
    → HasName tokens (get_or lines i d) (trouble_by (get_or lines i d).part levels ends)
named_at tokens at [] i d levels ends h l = absurd (omega arith)
named_at tokens at (x ∷ xs) zero d levels ends h l = named_by tokens at x x.part levels ends refl h.1
named_at tokens at (x ∷ xs) (suc i) d levels ends h l = let m : i < length xs = omega arith in named_at tokens x.to xs i d levels ends h.2 m

pub has_name : (tokens : List Token) (lines : List Mark) (i : ℕ) (d : Mark) (t : Option Trouble) (levels ends : List Bool) → Lines tokens 0 lines → i < length lines
    → t ≡ trouble_by (get_or lines i d).part levels ends → HasName tokens (get_or lines i d) t
has_name tokens lines i d t levels ends h l e = subst (HasName tokens (get_or lines i d)) (sym e) (named_at tokens 0 lines i d levels ends h l)
