-- Of a section's branches one is active at most: the first whose condition is fulfilled.
use Rattle.std.proofs.Common.{◌≡◌, ℕ, suc, Bool, true, false, not, ◌&&◌, if◌then◌else◌, List, [], ◌∷◌, ◌++◌, refl, ap, ◌∙◌}
use Rattle.cl_cond.specs.declared.mark.Condition.{Condition}
use Rattle.cl_cond.specs.declared.mark.Condition.TheVariants.{Elif, Else}
use Rattle.cl_cond.specs.declared.mark.Part.{Part}
use Rattle.cl_cond.specs.declared.mark.Part.TheVariants.{Line, Branch, End}
use Rattle.cl_cond.specs.Grouping.{Symbol, Derives, Group, Following, EndifLine, none, line, section, elif_group, else_group, no_else, endif_line}
use Rattle.cl_cond.specs.Sections.{opens}
use Rattle.cl_pp.specs.Activity.{Passed, Question, Active, Free, by_part, says}
use Rattle.cl_pp.specs.Branching.{Arm, IsSection, behind, laid, line_of_arm, none_held, parts}

-- ---- a group changes no answer

-- the section that is asked of, where a group or what ends a section follows
abbrev from_there : Symbol → ℕ → ℕ
from_there Group n = n
from_there Following n = suc n
from_there EndifLine n = suc n

record Split (lines : List Passed) (xs ys : List Part) : Type 0 where
  one : List Passed
  two : List Passed
  joined : lines ≡ one ++ two
  front : parts one ≡ xs
  back : parts two ≡ ys

split : (xs ys : List Part) (lines : List Passed) → parts lines ≡ xs ++ ys → Split lines xs ys
split [] ys lines e = record { one = []; two = lines; joined = refl; front = refl; back = e }
split (x ∷ xs) ys [] e = cc
split (x ∷ xs) ys (l ∷ ls) e =
    let head : l.part ≡ x = cc in
    let tail : parts ls ≡ xs ++ ys = cc in
    let s = split xs ys ls tail in
    record { one = l ∷ s.one; two = s.two; joined = ap (λ (ms : List Passed). l ∷ ms) s.joined; front = λ i. head i ∷ s.front i; back = s.back }

behind_append : (past xs ys : List Passed) → behind past (xs ++ ys) ≡ behind (behind past xs) ys
behind_append past [] ys = refl
behind_append past (x ∷ xs) ys = behind_append (x ∷ past) xs ys

-- the answer behind a line that is this
abbrev at_line : Question → ℕ → Passed → List Passed → Part → Bool
at_line q n l past p = by_part q n p l.held (λ (r : Question) (m : ℕ). says r m past)

past_if : (q : Question) (n : ℕ) (l : Passed) (past : List Passed) (c : Condition) → l.part ≡ Branch c → opens c ≡ true → says q (suc n) (l ∷ past) ≡ says q n past
past_if q n l past c e o = ap (at_line q (suc n) l past) e ∙ ap (λ (b : Bool). says q (if b then n else suc n) past) o

past_branch : (q : Question) (n : ℕ) (l : Passed) (past : List Passed) (c : Condition) → l.part ≡ Branch c → opens c ≡ false → says q (suc n) (l ∷ past) ≡ says q (suc n) past
past_branch q n l past c e o = ap (at_line q (suc n) l past) e ∙ ap (λ (b : Bool). says q (if b then n else suc n) past) o

over : {s : Symbol} {ps : List Part} → Derives s ps → (lines : List Passed) → parts lines ≡ ps → (q : Question) (past : List Passed) (n : ℕ) → says q n (behind past lines) ≡ says q (from_there s n) past
over none [] e q past n = refl
over none (l ∷ ls) e q past n = cc
over (line d) [] e q past n = cc
over (line {more = more} d) (l ∷ ls) e q past n =
    let head : l.part ≡ Line = cc in
    let tail : parts ls ≡ more = cc in
    over d ls tail q (l ∷ past) n ∙ ap (at_line q n l past) head
over (section c body following more o db df dm) [] e q past n = cc
over (section c body following more o db df dm) (l ∷ ls) e q past n =
    let head : l.part ≡ Branch c = cc in
    let tail : parts ls ≡ body ++ (following ++ more) = cc in
    let s = split body (following ++ more) ls tail in
    let t = split following more s.two s.back in
    ap (λ (ms : List Passed). says q n (behind (l ∷ past) ms)) (s.joined ∙ ap (λ (ms : List Passed). s.one ++ ms) t.joined)
    ∙ ap (says q n) (behind_append (l ∷ past) s.one (t.one ++ t.two) ∙ behind_append (behind (l ∷ past) s.one) t.one t.two)
    ∙ over dm t.two t.back q (behind (behind (l ∷ past) s.one) t.one) n
    ∙ over df t.one t.front q (behind (l ∷ past) s.one) n
    ∙ over db s.one s.front q (l ∷ past) (suc n)
    ∙ past_if q n l past c head o
over (elif_group body following db df) [] e q past n = cc
over (elif_group body following db df) (l ∷ ls) e q past n =
    let head : l.part ≡ Branch Elif = cc in
    let tail : parts ls ≡ body ++ following = cc in
    let s = split body following ls tail in
    ap (λ (ms : List Passed). says q n (behind (l ∷ past) ms)) s.joined
    ∙ ap (says q n) (behind_append (l ∷ past) s.one s.two)
    ∙ over df s.two s.back q (behind (l ∷ past) s.one) n
    ∙ over db s.one s.front q (l ∷ past) (suc n)
    ∙ past_branch q n l past Elif head refl
over (else_group body ending db de) [] e q past n = cc
over (else_group body ending db de) (l ∷ ls) e q past n =
    let head : l.part ≡ Branch Else = cc in
    let tail : parts ls ≡ body ++ ending = cc in
    let s = split body ending ls tail in
    ap (λ (ms : List Passed). says q n (behind (l ∷ past) ms)) s.joined
    ∙ ap (says q n) (behind_append (l ∷ past) s.one s.two)
    ∙ over de s.two s.back q (behind (l ∷ past) s.one) n
    ∙ over db s.one s.front q (l ∷ past) (suc n)
    ∙ past_branch q n l past Else head refl
over (no_else d) lines e q past n = over d lines e q past n
over endif_line [] e q past n = cc
over endif_line (l ∷ []) e q past n = let head : l.part ≡ End = cc in ap (at_line q n l past) head
over endif_line (l ∷ (m ∷ ls)) e q past n = cc

pub whole_over : (lines past : List Passed) (q : Question) (n : ℕ) → Derives Group (parts lines) → says q n (behind past lines) ≡ says q n past
whole_over lines past q n d = over d lines refl q past n

-- ---- the branches

no_more : (a b : Bool) → (a && b) ≡ ((a && true) && b)
no_more true b = refl
no_more false b = refl

regroup : (a b c : Bool) → (a && (b && c)) ≡ ((a && b) && c)
regroup true b c = refl
regroup false b c = refl

begun : (arm : Arm) (past : List Passed) → opens arm.condition ≡ true
    → (says Active 0 (line_of_arm arm ∷ past) ≡ (arm.held && says Active 0 past)) × (says Free 0 (line_of_arm arm ∷ past) ≡ (not arm.held && says Active 0 past))
begun arm past o = (ap (λ (b : Bool). arm.held && says (if b then Active else Free) 0 past) o, ap (λ (b : Bool). not arm.held && says (if b then Active else Free) 0 past) o)

gone_on : (arm : Arm) (past : List Passed) → opens arm.condition ≡ false
    → (says Active 0 (line_of_arm arm ∷ past) ≡ (arm.held && says Free 0 past)) × (says Free 0 (line_of_arm arm ∷ past) ≡ (not arm.held && says Free 0 past))
gone_on arm past o = (ap (λ (b : Bool). arm.held && says (if b then Active else Free) 0 past) o, ap (λ (b : Bool). not arm.held && says (if b then Active else Free) 0 past) o)

free_laid : (past : List Passed) (arms : List Arm) → IsSection arms → says Free 0 (laid past arms) ≡ (none_held arms && says Active 0 past)
free_laid past [] h = absurd h
free_laid past (arm ∷ []) h = whole_over arm.inside (line_of_arm arm ∷ past) Free 0 h.1 ∙ (begun arm past h.0).1 ∙ no_more (not arm.held) (says Active 0 past)
free_laid past (arm ∷ (next ∷ arms)) h =
    whole_over arm.inside (line_of_arm arm ∷ laid past (next ∷ arms)) Free 0 h.1 ∙ (gone_on arm (laid past (next ∷ arms)) h.0).1
    ∙ ap (λ (b : Bool). not arm.held && b) (free_laid past (next ∷ arms) h.2) ∙ regroup (not arm.held) (none_held (next ∷ arms)) (says Active 0 past)

pub one_active : (past : List Passed) (arm : Arm) (arms : List Arm) → IsSection (arm ∷ arms) → says Active 0 (laid past (arm ∷ arms)) ≡ (arm.held && (none_held arms && says Active 0 past))
one_active past arm [] h = whole_over arm.inside (line_of_arm arm ∷ past) Active 0 h.1 ∙ (begun arm past h.0).0
one_active past arm (next ∷ arms) h =
    whole_over arm.inside (line_of_arm arm ∷ laid past (next ∷ arms)) Active 0 h.1 ∙ (gone_on arm (laid past (next ∷ arms)) h.0).0
    ∙ ap (λ (b : Bool). arm.held && b) (free_laid past (next ∷ arms) h.2)
