-- The words of the program.
use Rattle.std.proofs.Common.{◌≡◌, ℕ, ◌+◌, ◌<◌, List, ◌∷◌, length, map, drop, get_or, true, false, refl, sym, ap, subst, ◌∙◌, add-one, suc, Bor}
use Rattle.std.proofs.Math.Seq.{drop-cons}
use Rattle.std.specs.Prelude.{Option, Some, None, MatchOption, option_map}
use Rattle.std.specs.Str.{IsCharBoundary}
use Rattle.std.specs.Str.Pattern.{FindsTextPrefix, StripsPrefix}
use Rattle.std.proofs.lemmas.Str.Pattern.{starts_text}
use Rattle.clsd.specs.declared.command.Said.{Said}
use Rattle.clsd.specs.Words.{behind, said_with, words_in}

pub strips : (mark word : List ℕ) (r : Option (Bor (List ℕ))) → MatchOption r (FindsTextPrefix mark word None) (λ x. StripsPrefix (FindsTextPrefix mark) word x.now)
    → option_map (λ x. x.now) r ≡ behind mark word
strips mark word None lacks = rw (sym (starts_text false mark word lacks)) refl
strips mark word (Some x) (k, finds, is, fits) =
    rw (sym (starts_text true mark word (k, finds, subst (λ n. IsCharBoundary word n) (sym finds.0) finds.2))) (ap Some (is ∙ ap (λ (n : ℕ). drop n word) finds.0))

-- the words from the i-th on begin with it
from_here : {X : Type 0} (words : List X) (i : ℕ) (word : X) → i < length words → word ≡ get_or words i word → drop i words ≡ word ∷ drop (i + 1) words
from_here words i word lt is = rw (add-one i) (drop-cons words i word lt ∙ ap (λ x. x ∷ drop (suc i) words) (sym is))

pub word_here : {X : Type 0} (bytes : X → List ℕ) (words : List X) (i n : ℕ) (word : X) (said : Said) → i < length words → word ≡ get_or words i word
    → words_in n (Some said) (map bytes (drop i words)) ≡ words_in (n + 1) (said_with said (bytes word)) (map bytes (drop (i + 1) words))
word_here bytes words i n word said lt is = ap (λ ws. words_in n (Some said) (map bytes ws)) (from_here words i word lt is)
