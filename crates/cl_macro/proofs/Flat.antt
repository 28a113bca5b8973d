-- Names whose work goes on alike wherever they stand.
use Rattle.std.proofs.Common.{◌≡◌, ℕ, Bool, true, false, not, List, [], ◌∷◌, ◌++◌, map, Option, Some, None, refl, sym, ap, subst}
use Rattle.std.specs.Prelude.{if◌then◌else◌, ◌&&◌, ◌||◌, is_some}
use Rattle.std.specs.Cmp.Lexicographic.{same_text}
use Rattle.cl_base.specs.declared.macros.Macro.{Macro}
use Rattle.cl_base.specs.declared.token.Kind.{Kind}
use Rattle.cl_macro.specs.declared.word.Word.{Word}
use Rattle.cl_macro.specs.Words.{contains, is_ident, painted, same}
use Rattle.cl_macro.specs.Turns.{Turn, Stays, Invokes, Misfits, Open, turn_of, turn_by}
use Rattle.cl_macro.specs.Pasting.{joined_body, spaced}
use Rattle.cl_macro.specs.Made.{is_file, is_line}
use Rattle.cl_macro.specs.code.Flat.{is_object, is_flat, is_flat_name, is_tame, are_flat, are_tame}

pub and_left : (a b : Bool) → (a && b) ≡ true → a ≡ true
and_left true b e = refl
and_left false b e = cc

pub and_right : (a b : Bool) → (a && b) ≡ true → b ≡ true
and_right true b e = e
and_right false b e = cc

not_true : (a : Bool) → not a ≡ true → a ≡ false
not_true true e = cc
not_true false e = refl

or_not : (a b : Bool) → (not a || b) ≡ true → a ≡ true → b ≡ true
or_not true b e h = e
or_not false b e h = cc

no_params : (o : Option (List (List ℕ))) → not (is_some o) ≡ true → o ≡ None
no_params None e = refl
no_params (Some ps) e = cc

-- no names but these
abbrev pub Tame : List (List ℕ) → List Word → Type 0
Tame names [] = Unit {0}
Tame names (w ∷ ws) = (is_ident w.token.kind ≡ true → contains names w.token.text ≡ true) × Tame names ws

tame_all : (names : List (List ℕ)) (ws : List Word) → are_tame names ws ≡ true → Tame names ws
tame_all names [] e = tt
tame_all names (w ∷ ws) e =
    (or_not (is_ident w.token.kind) (contains names w.token.text) (and_left _ (are_tame names ws) e), tame_all names ws (and_right (is_tame names w) _ e))

pub tame_more : (names : List (List ℕ)) (a b : List Word) → Tame names a → Tame names b → Tame names (a ++ b)
tame_more names [] b h k = k
tame_more names (w ∷ a) b h k = (h.0, tame_more names a b h.1 k)

pub tame_painted : (names set : List (List ℕ)) (ws : List Word) → Tame names ws → Tame names (map (painted set) ws)
tame_painted names set [] h = tt
tame_painted names set (w ∷ ws) h = (h.0, tame_painted names set ws h.1)

pub tame_spaced : (names : List (List ℕ)) (space : Bool) (ws : List Word) → Tame names ws → Tame names (spaced space ws)
tame_spaced names space [] h = tt
tame_spaced names space (w ∷ ws) h = (h.0, h.1)

-- the same names, no longer replaced for the same ones
pub record AlikeWord (v w : Word) : Type 0 where
  pub kind : is_ident v.token.kind ≡ is_ident w.token.kind
  pub text : v.token.text ≡ w.token.text
  pub hide : v.hide ≡ w.hide

abbrev pub Alike : List Word → List Word → Type 0
Alike [] [] = Unit {0}
Alike [] (w ∷ ws) = ⊥
Alike (v ∷ vs) [] = ⊥
Alike (v ∷ vs) (w ∷ ws) = AlikeWord v w × Alike vs ws

pub alike_self : (ws : List Word) → Alike ws ws
alike_self [] = tt
alike_self (w ∷ ws) = (record { kind = refl; text = refl; hide = refl }, alike_self ws)

pub alike_more : (a b c d : List Word) → Alike a b → Alike c d → Alike (a ++ c) (b ++ d)
alike_more [] [] c d h k = k
alike_more [] (w ∷ ws) c d h k = absurd h
alike_more (v ∷ vs) [] c d h k = absurd h
alike_more (v ∷ vs) (w ∷ ws) c d h k = (h.0, alike_more vs ws c d h.1 k)

pub alike_spaced : (set : List (List ℕ)) (a b : Bool) (ws : List Word) → Alike (map (painted set) (spaced a ws)) (map (painted set) (spaced b ws))
alike_spaced set a b [] = tt
alike_spaced set a b (w ∷ ws) = (record { kind = refl; text = refl; hide = refl }, alike_self (map (painted set) ws))

-- ---- the macros

pub record Object (one_token : List ℕ → Option Kind) (names : List (List ℕ)) (m : Macro) : Type 0 where
  pub params : m.params ≡ None
  pub file : is_file m ≡ false
  pub line : is_line m ≡ false
  pub tame : Tame names (joined_body one_token m [] []).words

pub object : (one_token : List ℕ → Option Kind) (names : List (List ℕ)) (m : Macro) → is_flat one_token names m ≡ true → Object one_token names m
object one_token names m e =
    let o = and_left _ (are_tame names (joined_body one_token m [] []).words) e in
    let r = and_right (not (is_some m.params)) _ o in record {
      params = no_params m.params (and_left (not (is_some m.params)) _ o);
      file = not_true (is_file m) (and_left (not (is_file m)) _ r);
      line = not_true (is_line m) (and_right (not (is_file m)) _ r);
      tame = tame_all names _ (and_right (is_object m) _ e);
    }

-- ---- what is done with a token

abbrev pub quiet : Option Macro → Turn
quiet None = Stays
quiet (Some m) = Invokes m []

pub turn_quiet : (one_token : List ℕ → Option Kind) (names : List (List ℕ)) (o : Option Macro) (more : List Word) → is_flat_name one_token names o ≡ true → turn_of o more ≡ quiet o
turn_quiet one_token names None more h = refl
turn_quiet one_token names (Some m) more h = ap (λ (p : Option (List (List ℕ))). turn_by m p more) (object one_token names m h).params

pub quiet_invokes : (o : Option Macro) (m : Macro) (behind : List Word) → quiet o ≡ Invokes m behind → (o ≡ Some m) × (behind ≡ [])
quiet_invokes None m behind e = cc
quiet_invokes (Some n) m behind e = (cc, cc)

pub quiet_misfits : (o : Option Macro) (behind : List Word) → quiet o ≡ Misfits behind → ⊥
quiet_misfits None behind e = cc
quiet_misfits (Some n) behind e = cc

pub quiet_open : (o : Option Macro) → quiet o ≡ Open → ⊥
quiet_open None e = cc
quiet_open (Some n) e = cc

by_same : (one_token : List ℕ → Option Kind) (macros : List ℕ → Option Macro) (names ns : List (List ℕ)) (x n : List ℕ) (b : Bool) → same x n ≡ b → is_flat_name one_token names (macros x) ≡ true
    → (contains ns n ≡ true → is_flat_name one_token names (macros n) ≡ true) → (b || contains ns n) ≡ true → is_flat_name one_token names (macros n) ≡ true
by_same one_token macros names ns x n true e h later k = subst (λ (y : List ℕ). is_flat_name one_token names (macros y) ≡ true) (same_text x n (sym e)) h
by_same one_token macros names ns x n false e h later k = later k

pub name_flat : (one_token : List ℕ → Option Kind) (macros : List ℕ → Option Macro) (names ns : List (List ℕ)) (n : List ℕ) → are_flat one_token macros names ns ≡ true → contains ns n ≡ true → is_flat_name one_token names (macros n) ≡ true
name_flat one_token macros names [] n h k = cc
name_flat one_token macros names (x ∷ ns) n h k = by_same one_token macros names ns x n (same x n) refl (and_left _ (are_flat one_token macros names ns) h)
    (λ j. name_flat one_token macros names ns n (and_right (is_flat_name one_token names (macros x)) _ h) j) k

pub flat_if : (one_token : List ℕ → Option Kind) (names : List (List ℕ)) (b : Bool) (o : Option Macro) → (b ≡ true → is_flat_name one_token names o ≡ true) → is_flat_name one_token names (if b then o else None) ≡ true
flat_if one_token names true o h = h refl
flat_if one_token names false o h = refl
