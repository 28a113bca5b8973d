-- The marks are a group of the grammar, once the missing ends are added.
use Rattle.std.proofs.Common.{◌≡◌, ℕ, zero, suc, ◌+◌, ◌-◌, ◌<◌, ◌≤◌, Bool, true, false, List, [], ◌∷◌, ◌++◌, Option, Some, None, refl, sym, ap, ◌∙◌, subst, length, arith, append_assoc, nat_lt, cond}
use Rattle.std.specs.Prelude.{◌==◌}
use Rattle.std.proofs.lemmas.List.{map-append}
use Rattle.std.proofs.lemmas.List.Sums.{sum_by-append}
use Rattle.std.proofs.lemmas.Bool.Decides.{nat_tests}
use Rattle.cl_base.specs.declared.token.Token.{Token}
use Rattle.cl_base.specs.declared.token.Fault.{Fault}
use Rattle.cl_cond.specs.declared.mark.Condition.{Condition}
use Rattle.cl_cond.specs.declared.mark.Condition.TheVariants.{If, IfDef, IfNDef, Elif, Else}
use Rattle.cl_cond.specs.declared.mark.Part.{Part}
use Rattle.cl_cond.specs.declared.mark.Part.TheVariants.{Line, Branch, End}
use Rattle.cl_cond.specs.declared.mark.Mark.{Mark}
use Rattle.cl_cond.specs.declared.mark.Groups.{Groups}
use Rattle.cl_cond.specs.declared.trouble.Trouble.{Trouble}
use Rattle.cl_cond.specs.declared.trouble.Trouble.TheVariants.{Outside, AfterElse, Unended}
use Rattle.cl_cond.specs.Sections.{GroupsOf, opens, parts, kept, kept_line, faults_of, fault_list, trouble_of, has_end}
use Rattle.cl_cond.specs.code.Nesting.{after_line, spare_before, sections, ends_of, trouble_by, of_section, of_if, with_else}
use Rattle.cl_cond.specs.Grouping.{Symbol, Derives, IsGroup, ends, missing, Group, Following, EndifLine, none, line, section, elif_group, else_group, no_else, endif_line}
use Rattle.cl_cond.proofs.Following.{trouble_known}

abbrev follows : Bool → Symbol
follows true = EndifLine
follows false = Following

-- what may follow where these sections are open, so that the whole is a group
data Closes : List Bool → List Part → Type 0 where
  whole : {more : List Part} → Derives Group more → Closes [] more
  inner : (b : Bool) (bs : List Bool) (body following more : List Part) → Derives Group body → Derives (follows b) following → Closes bs more → Closes (b ∷ bs) (body ++ (following ++ more))

close_line : {s : List Bool} {r : List Part} → Closes s r → Closes s (Line ∷ r)
close_line (whole d) = whole (line d)
close_line (inner b s body following more d f m) = inner b s (Line ∷ body) following more (line d) f m

close_end : (b : Bool) (s : List Bool) (r : List Part) → Closes s r → Closes (b ∷ s) (End ∷ r)
close_end true s r m = inner true s [] (End ∷ []) r none endif_line m
close_end false s r m = inner false s [] (End ∷ []) r none (no_else endif_line) m

close_ends : (s : List Bool) → Closes s (ends (length s))
close_ends [] = whole none
close_ends (b ∷ s) = close_end b s (ends (length s)) (close_ends s)

whole_of : {r : List Part} → Closes [] r → Derives Group r
whole_of (whole d) = d

-- a section before what may follow
put_section : (c : Condition) (body following : List Part) → opens c ≡ true → Derives Group body → Derives Following following
    → {s : List Bool} {r : List Part} → Closes s r → Closes s (Branch c ∷ (body ++ (following ++ r)))
put_section c body following o d f (whole e) = whole (section c body following _ o d f e)
put_section c body following o d f (inner b s first next more e g m) =
    let same : (Branch c ∷ (body ++ (following ++ first))) ++ (next ++ more) ≡ Branch c ∷ (body ++ (following ++ (first ++ (next ++ more)))) =
    ap (λ (xs : List Part). Branch c ∷ xs) (append_assoc body (following ++ first) (next ++ more) ∙ ap (λ (xs : List Part). body ++ xs) (append_assoc following first (next ++ more))) in
    subst (Closes (b ∷ s)) same (inner b s (Branch c ∷ (body ++ (following ++ first))) next more (section c body following first o d f e) g m)

close_if : (c : Condition) (s : List Bool) (r : List Part) → opens c ≡ true → Closes (false ∷ s) r → Closes s (Branch c ∷ r)
close_if c s _ o (inner _ _ body following more d f m) = put_section c body following o d f m

close_elif : (s : List Bool) (r : List Part) → Closes (false ∷ s) r → Closes (false ∷ s) (Branch Elif ∷ r)
close_elif s _ (inner _ _ body following more d f m) =
    subst (λ (xs : List Part). Closes (false ∷ s) (Branch Elif ∷ xs)) (append_assoc body following more)
    (inner false s [] (Branch Elif ∷ (body ++ following)) more none (elif_group body following d f) m)

close_else : (s : List Bool) (r : List Part) → Closes (true ∷ s) r → Closes (false ∷ s) (Branch Else ∷ r)
close_else s _ (inner _ _ body following more d f m) =
    subst (λ (xs : List Part). Closes (false ∷ s) (Branch Else ∷ xs)) (append_assoc body following more)
    (inner false s [] (Branch Else ∷ (body ++ following)) more none (else_group body following d f) m)

-- the sections that are open after more lines
abbrev follow : List Bool → List Part → List Bool
follow s [] = s
follow s (p ∷ after) = follow (after_line p s) after

abbrev kept_part : Part → Option Trouble → List Part
kept_part p None = p ∷ []
kept_part p (Some Outside) = []
kept_part p (Some AfterElse) = []
kept_part p (Some Unended) = p ∷ []

part_kept : (m : Mark) (t : Option Trouble) → parts (kept_line m t) ≡ kept_part m.part t
part_kept m None = refl
part_kept m (Some Outside) = refl
part_kept m (Some AfterElse) = refl
part_kept m (Some Unended) = refl

keep_if : (p : Part) (e s : List Bool) (r : List Part) → Closes s (p ∷ r) → Closes s (kept_part p (of_if e) ++ r)
keep_if p [] s r h = h
keep_if p (true ∷ e) s r h = h
keep_if p (false ∷ e) s r h = h

-- a line that is kept or lost leaves what may follow
keep_one : (p : Part) (s e : List Bool) (r : List Part) → Closes (after_line p s) r → Closes s (kept_part p (trouble_by p s e) ++ r)
keep_one Line s e r h = close_line h
keep_one End [] e r h = h
keep_one End (b ∷ s) e r h = close_end b s r h
keep_one (Branch If) s e r h = keep_if (Branch If) e s r (close_if If s r refl h)
keep_one (Branch IfDef) s e r h = keep_if (Branch IfDef) e s r (close_if IfDef s r refl h)
keep_one (Branch IfNDef) s e r h = keep_if (Branch IfNDef) e s r (close_if IfNDef s r refl h)
keep_one (Branch Elif) [] e r h = h
keep_one (Branch Elif) (true ∷ s) e r h = h
keep_one (Branch Elif) (false ∷ s) e r h = close_elif s r h
keep_one (Branch Else) [] e r h = h
keep_one (Branch Else) (true ∷ s) e r h = h
keep_one (Branch Else) (false ∷ s) e r h = close_else s r h

keep_all : (before : List Part) (after : List Mark) (r : List Part) → Closes (follow (sections before) (parts after)) r → Closes (sections before) (parts (kept before after) ++ r)
keep_all before [] r h = h
keep_all before (x ∷ xs) r h =
    let t : Option Trouble = trouble_of before x xs in
    let more : Closes (sections (x.part ∷ before)) (parts (kept (x.part ∷ before) xs) ++ r) = keep_all (x.part ∷ before) xs r h in
    let one = keep_one x.part (sections before) (ends_of (x.part ∷ parts xs)) (parts (kept (x.part ∷ before) xs) ++ r) more in
    let same : kept_part x.part (trouble_by x.part (sections before) (ends_of (x.part ∷ parts xs))) ≡ parts (kept_line x t) =
    ap (kept_part x.part) (sym (trouble_known before x.part (parts xs))) ∙ sym (part_kept x t) in
    let joined : parts (kept_line x t) ++ (parts (kept (x.part ∷ before) xs) ++ r) ≡ parts (kept before (x ∷ xs)) ++ r =
    sym (append_assoc (parts (kept_line x t)) (parts (kept (x.part ∷ before) xs)) r)
    ∙ ap (λ (ps : List Part). ps ++ r) (sym (map-append (λ (m : Mark). m.part) (kept_line x t) (kept (x.part ∷ before) xs))) in
    subst (Closes (sections before)) (ap (λ (ps : List Part). ps ++ (parts (kept (x.part ∷ before) xs) ++ r)) same ∙ joined) one

-- ---- each section that is open at the end has its fault

abbrev spare : List Part → ℕ
spare [] = 0
spare (p ∷ after) = spare_before p (spare after)

spare_end : (after : List Part) → (n : ℕ) → has_end n after ≡ nat_lt n (spare after)
spare_end [] n = grind (arith, nat_tests)
spare_end (Line ∷ after) n = spare_end after n
spare_end (End ∷ after) zero = grind (arith, nat_tests)
spare_end (End ∷ after) (suc n) = let e = spare_end after n in grind (arith, nat_tests)
spare_end (Branch If ∷ after) n = let e = spare_end after (suc n) in grind (arith, nat_tests)
spare_end (Branch IfDef ∷ after) n = let e = spare_end after (suc n) in grind (arith, nat_tests)
spare_end (Branch IfNDef ∷ after) n = let e = spare_end after (suc n) in grind (arith, nat_tests)
spare_end (Branch Elif ∷ after) n = spare_end after n
spare_end (Branch Else ∷ after) n = spare_end after n

abbrev unended : Option Trouble → ℕ
unended None = 0
unended (Some Outside) = 0
unended (Some AfterElse) = 0
unended (Some Unended) = 1

missing_one : (tokens : List Token) (x : Mark) (t : Option Trouble) → missing (fault_list tokens x t) ≡ unended t
missing_one tokens x None = refl
missing_one tokens x (Some Outside) = refl
missing_one tokens x (Some AfterElse) = refl
missing_one tokens x (Some Unended) = refl

missing_more : (tokens : List Token) (x : Mark) (t : Option Trouble) (faults : List Fault) → missing (fault_list tokens x t ++ faults) ≡ unended t + missing faults
missing_more tokens x t faults =
    let e = sum_by-append (λ (f : Fault). cond (f.number == 14) 1 0) (fault_list tokens x t) faults in
    let g = missing_one tokens x t in
    e ∙ ap (λ (n : ℕ). n + missing faults) g

if_count : (b : Bool) (k n m : ℕ) (e : List Bool) → b ≡ nat_lt 0 k → m + (suc n - k) ≡ unended (of_if (b ∷ e)) + (m + (n - (k - 1)))
if_count true k n m e h = let l : 0 < k = grind (arith, nat_tests) in omega arith
if_count false k n m e h = let l : k ≤ 0 = grind (arith, nat_tests) in omega arith

section_count : (s : List Bool) → unended (of_section s) ≡ 0
section_count [] = refl
section_count (true ∷ s) = refl
section_count (false ∷ s) = refl

with_else_count : (s : List Bool) → length (with_else s) ≡ length s
with_else_count [] = refl
with_else_count (b ∷ s) = refl

count_step : (p : Part) (s : List Bool) (after : List Part) (m : ℕ)
    → m + (length (after_line p s) - spare after) ≡ unended (trouble_by p s (ends_of (p ∷ after))) + (m + (length s - spare (p ∷ after)))
count_step Line s after m = omega arith
count_step End [] after m = omega arith
count_step End (b ∷ s) after m = omega arith
count_step (Branch If) s after m = if_count (has_end 0 after) (spare after) (length s) m (ends_of after) (spare_end after 0)
count_step (Branch IfDef) s after m = if_count (has_end 0 after) (spare after) (length s) m (ends_of after) (spare_end after 0)
count_step (Branch IfNDef) s after m = if_count (has_end 0 after) (spare after) (length s) m (ends_of after) (spare_end after 0)
count_step (Branch Elif) s after m = omega (arith, section_count s)
count_step (Branch Else) s after m = omega (arith, section_count s, with_else_count s)

open_count : (tokens : List Token) (before : List Part) (after : List Mark)
    → length (follow (sections before) (parts after)) ≡ missing (faults_of tokens before after) + (length (sections before) - spare (parts after))
open_count tokens before [] = omega arith
open_count tokens before (x ∷ xs) =
    let more = open_count tokens (x.part ∷ before) xs in
    let here = missing_more tokens x (trouble_of before x xs) (faults_of tokens (x.part ∷ before) xs) in
    let known = ap unended (trouble_known before x.part (parts xs)) in
    let step = count_step x.part (sections before) (parts xs) (missing (faults_of tokens (x.part ∷ before) xs)) in
    omega arith

pub is_group : (tokens : List Token) (groups : Groups) → GroupsOf tokens groups → IsGroup groups
is_group tokens groups h =
    let s : List Bool = follow [] (parts h.lines) in
    let count : length s ≡ missing groups.faults = let e = open_count tokens [] h.lines in let f = ap missing h.faults in omega arith in
    whole_of (subst (λ (ms : List Mark). Closes [] (parts ms ++ ends (missing groups.faults))) (sym h.marks)
    (keep_all [] h.lines (ends (missing groups.faults)) (subst (λ (n : ℕ). Closes s (ends n)) count (close_ends s))))
