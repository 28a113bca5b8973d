-- The open sections give the answers of the lines before.
use Rattle.std.proofs.Common.{◌≡◌, ℕ, zero, suc, List, [], ◌∷◌, refl, sym, ap, ◌∙◌, Bool, true, false, ◌&&◌, subst}
use Rattle.std.specs.Prelude.{not, reverse, if◌then◌else◌}
use Rattle.cl_cond.specs.declared.mark.Part.{Part}
use Rattle.cl_cond.specs.declared.mark.Part.TheVariants.{Line, Branch, End}
use Rattle.cl_cond.specs.Sections.{opens}
use Rattle.cl_pp.specs.declared.section.Section.{Section}
use Rattle.cl_pp.specs.Activity.{Passed, Question, Active, Free, Outer, at_branch, by_part, says}
use Rattle.cl_pp.specs.code.Stacks.{Stand, Tells, below, nth, stacked, tell, top_of, under}

top_is : (stack : List Section) → nth stack 0 ≡ top_of stack
top_is [] = refl
top_is (s ∷ stack) = refl

below_is : (stack : List Section) (n : ℕ) → nth stack (suc n) ≡ nth (below stack) n
below_is [] n = refl
below_is (s ∷ stack) n = refl

told_top : (f : Question → ℕ → Bool) (stack : List Section) (q : Question) → Tells f stack → f q 0 ≡ tell (top_of stack) q
told_top f stack q s = s q 0 ∙ ap (λ (x : Section). tell x q) (top_is stack)

inside : (b held : Bool) (f : Question → ℕ → Bool) (stack : List Section) (q : Question) (k : ℕ) → Tells f stack
    → f q (if b then k else suc k) ≡ tell (nth (under b held stack) (suc k)) q
inside true held f stack q k s = s q k
inside false held f stack q k s = s q (suc k) ∙ ap (λ (x : Section). tell x q) (below_is stack k)

first : (b held : Bool) (f : Question → ℕ → Bool) (stack : List Section) (q : Question) → Tells f stack
    → at_branch q held (f (if b then Active else Free) 0) (f (if b then Active else Outer) 0) ≡ tell (nth (under b held stack) 0) q
first true held f stack Active s = ap (λ (x : Bool). held && x) (told_top f stack Active s)
first true held f stack Free s = ap (λ (x : Bool). not held && x) (told_top f stack Active s)
first true held f stack Outer s = told_top f stack Active s
first false held f stack Active s = ap (λ (x : Bool). held && x) (told_top f stack Free s)
first false held f stack Free s = ap (λ (x : Bool). not held && x) (told_top f stack Free s)
first false held f stack Outer s = told_top f stack Outer s

by_line : (part : Part) (held : Bool) (f : Question → ℕ → Bool) (stack : List Section) (q : Question) (n : ℕ) → Tells f stack
    → by_part q n part held f ≡ tell (nth (stacked part held stack) n) q
by_line Line held f stack q n s = s q n
by_line End held f stack q n s = s q (suc n) ∙ ap (λ (x : Section). tell x q) (below_is stack n)
by_line (Branch c) held f stack q zero s = first (opens c) held f stack q s
by_line (Branch c) held f stack q (suc n) s = inside (opens c) held f stack q n s

pub stand_on : (past : List Passed) (stack : List Section) (line : Passed) → Stand past stack → Stand (line ∷ past) (stacked line.part line.held stack)
stand_on past stack line s q n = by_line line.part line.held (λ r m. says r m past) stack q n s

stand_first : Stand [] []
stand_first Active n = refl
stand_first Free n = refl
stand_first Outer n = refl

pub stand_start : (sections : List Section) → sections ≡ [] → Stand [] (reverse sections)
stand_start sections e = subst (λ (s : List Section). Stand [] (reverse s)) (sym e) stand_first

pub top_answers : (past : List Passed) (stack : List Section) → Stand past stack → tell (top_of stack) ≡ (λ q. says q 0 past)
top_answers past stack s = λ i. λ (q : Question). sym (told_top (λ r n. says r n past) stack q s) i
