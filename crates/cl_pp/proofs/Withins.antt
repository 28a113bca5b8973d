-- The tokens of a line stand in the text.
use Rattle.std.proofs.Common.{ℕ, zero, suc, ◌-◌, ◌≤◌, Bool, true, false, List, [], ◌∷◌, Option, arith, length, map, take, drop, subst, sym}
use Rattle.std.specs.Prelude.{◌==◌, if◌then◌else◌, is_some}
use Rattle.cl_base.specs.declared.macros.Macro.{Macro}
use Rattle.cl_base.specs.declared.token.Token.{Token}
use Rattle.cl_base.specs.declared.token.PpToken.{PpToken}
use Rattle.cl_lex.specs.Order.{AreInOrder}
use Rattle.cl_macro.specs.Levels.{Within as AreWithin}
use Rattle.cl_macro.specs.Words.{fresh}
use Rattle.cl_pp.specs.Defined.{decided, number_for, operand_name, spread, taken}
use Rattle.cl_pp.specs.code.Deciding.{decided_from}
use Rattle.cl_pp.specs.Lines.{rest_of, spread_line}
use Rattle.cl_pp.specs.Places.{Within}
use Rattle.cl_pp.proofs.Deciding.{decided_is}

pub within_spread : (file : ℕ) (text : List ℕ) (line : List Token) → Within (length text) line → AreWithin text (map fresh (spread_line file line))
within_spread file text [] h = tt
within_spread file text (t ∷ ts) h = (h.0, within_spread file text ts h.1)

one_within : (b : Bool) (end : ℕ) (x y : PpToken) → x.at.from ≤ end → y.at.from ≤ end → (if b then x else y).at.from ≤ end
one_within true end x y h k = h
one_within false end x y h k = k

within_from : (file : ℕ) (macros : List ℕ → Option Macro) (text : List ℕ) (n : ℕ) (ts : List Token) → Within (length text) ts → AreWithin text (map fresh (decided_from file macros n ts))
within_from file macros text n [] h = tt
within_from file macros text (suc n) (t ∷ ts) h = within_from file macros text n ts h.1
within_from file macros text zero (t ∷ ts) h =
    (one_within (taken t ts == 0) (length text) (spread file t) (number_for file (is_some (macros (operand_name ts))) t (taken t ts) ts) h.0 h.0, within_from file macros text (taken t ts) ts h.1)

pub within_decided : (file : ℕ) (macros : List ℕ → Option Macro) (text : List ℕ) (ts : List Token) → Within (length text) ts → AreWithin text (map fresh (decided file macros ts))
within_decided file macros text ts h = subst (λ (made : List PpToken). AreWithin text (map fresh made)) (sym (decided_is file macros ts)) (within_from file macros text 0 ts h)

pub within_rest : (end : ℕ) (line : List Token) → Within end line → Within end (rest_of line)
within_rest end [] h = tt
within_rest end (a ∷ []) h = tt
within_rest end (a ∷ (b ∷ ts)) h = h.1.1

within_drop : (end n : ℕ) (ts : List Token) → Within end ts → Within end (drop n ts)
within_drop end zero ts h = h
within_drop end (suc n) [] h = h
within_drop end (suc n) (t ∷ ts) h = within_drop end n ts h.1

within_take : (end n : ℕ) (ts : List Token) → Within end ts → Within end (take n ts)
within_take end zero ts h = tt
within_take end (suc n) [] h = tt
within_take end (suc n) (t ∷ ts) h = (h.0, within_take end n ts h.1)

pub within_line : (end from to : ℕ) (ts : List Token) → Within end ts → Within end (take (to - from) (drop from ts))
within_line end from to ts h = within_take end (to - from) (drop from ts) (within_drop end from ts h)

reaches : (at end : ℕ) (ts : List Token) → AreInOrder at end ts → at ≤ end
reaches at end [] h = h
reaches at end (t ∷ ts) h = let r = reaches t.to end ts h.2 in omega (arith, h.0, h.1, r)

pub within_order : (at end : ℕ) (ts : List Token) → AreInOrder at end ts → Within end ts
within_order at end [] h = tt
within_order at end (t ∷ ts) h = let r = reaches t.to end ts h.2 in (omega (arith, h.1, r), within_order t.to end ts h.2)
