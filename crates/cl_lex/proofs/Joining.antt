-- The characters of a text, as they are gathered one after the other.
use Rattle.std.proofs.Common.{◌≡◌, ◌∙◌, ℕ, ◌<◌, ◌≤◌, ◌+◌, List, [], ◌∷◌, ◌++◌, length, get_or, sym, ap, arith, append_assoc, append-nil, true, false}
use Rattle.cl_lex.specs.declared.source.Joined.{Joined}
use Rattle.cl_lex.specs.Source.{Character, value_at, width_at, is_splice, splice_width, characters, values}
use Rattle.cl_lex.specs.Held.{IsJoined, starts}
use Rattle.cl_lex.specs.Plain.{is_plain_at}
use Rattle.cl_lex.proofs.PlainText.{plain_byte}
use Rattle.cl_lex.proofs.Characters.{rest, rest_all, rest_none, rest_spliced, rest_character, width_within, splice_within}

-- what is gathered, and what is left from here on, are all the characters
pub record IsJoining (text : List ℕ) (at : ℕ) (vs ss : List ℕ) : Type 0 where
  pub within : at ≤ length text
  pub values : vs ++ values (rest text at) ≡ values (characters text)
  pub starts : ss ++ starts (rest text at) ≡ starts (characters text)

pub joining_none : (text : List ℕ) (at : ℕ) (vs ss : List ℕ) → at ≡ 0 → vs ≡ [] → ss ≡ [] → IsJoining text at vs ss
joining_none text at vs ss a v s = record {
  within = omega arith;
  values = (λ i. v i ++ values (rest text (a i))) ∙ ap values (rest_all text);
  starts = (λ i. s i ++ starts (rest text (a i))) ∙ ap starts (rest_all text);
}

pub joining_spliced : (text : List ℕ) (at next : ℕ) (vs ss : List ℕ) → at < length text → is_splice text at ≡ true → next ≡ at + splice_width text at
    → IsJoining text at vs ss → IsJoining text next vs ss
joining_spliced text at next vs ss h e n j =
    let same : rest text next ≡ rest text at = ap (rest text) n ∙ sym (rest_spliced text at h e) in
    record {
      within = rw n (splice_within text at h e);
      values = ap (λ (cs : List Character). vs ++ values cs) same ∙ j.values;
      starts = ap (λ (cs : List Character). ss ++ starts cs) same ∙ j.starts;
    }

pub joining_more : (text : List ℕ) (at next : ℕ) (vs ss vs' ss' : List ℕ) → at < length text → is_splice text at ≡ false → next ≡ at + width_at text at
    → vs' ≡ vs ++ value_at text at ∷ [] → ss' ≡ ss ++ at ∷ [] → IsJoining text at vs ss → IsJoining text next vs' ss'
joining_more text at next vs ss vs' ss' h e n v s j =
    let same = rest_character text at h e in
    record {
      within = rw n (width_within text at h);
      values = (λ i. v i ++ values (rest text (n i))) ∙ append_assoc vs (value_at text at ∷ []) (values (rest text (at + width_at text at)))
          ∙ ap (λ (cs : List Character). vs ++ values cs) (sym same) ∙ j.values;
      starts = (λ i. s i ++ starts (rest text (n i))) ∙ append_assoc ss (at ∷ []) (starts (rest text (at + width_at text at)))
          ∙ ap (λ (cs : List Character). ss ++ starts cs) (sym same) ∙ j.starts;
    }

pub joining_plain : (text : List ℕ) (at : ℕ) (vs ss vs' ss' : List ℕ) → at < length text → is_plain_at text at ≡ true
    → vs' ≡ vs ++ get_or text at 0 ∷ [] → ss' ≡ ss ++ at ∷ [] → IsJoining text at vs ss → IsJoining text (at + 1) vs' ss'
joining_plain text at vs ss vs' ss' h e v s j =
    let byte = plain_byte text at e in
    joining_more text at (at + 1) vs ss vs' ss' h byte.kept (ap (λ (n : ℕ). at + n) (sym byte.width)) (v ∙ ap (λ (c : ℕ). vs ++ c ∷ []) (sym byte.value)) s j

pub joining_ends : (text : List ℕ) (at : ℕ) (joined : Joined) → length text ≤ at → IsJoining text at joined.values.items joined.starts.items
    → IsJoined text joined
joining_ends text at joined h j =
    let none = rest_none text at h in
    record {
      values = sym (append-nil joined.values.items) ∙ ap (λ (cs : List Character). joined.values.items ++ values cs) (sym none) ∙ j.values;
      starts = sym (append-nil joined.starts.items) ∙ ap (λ (cs : List Character). joined.starts.items ++ starts cs) (sym none) ∙ j.starts;
    }
