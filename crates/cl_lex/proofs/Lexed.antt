-- The tokens of the items so far, and what is still to come.
use Rattle.std.proofs.Common.{◌≡◌, ℕ, ◌<◌, ◌≤◌, ◌++◌, List, [], ◌∷◌, length, sym, ◌∙◌, ap, append-nil, append_assoc, subst, refl, arith, true, false, Bool, slice_range}
use Rattle.cl_base.specs.declared.token.Token.{Token}
use Rattle.cl_base.specs.declared.token.Fault.{Fault}
use Rattle.cl_base.specs.declared.token.Lexed.{Lexed}
use Rattle.cl_lex.specs.declared.item.Item.{Item}
use Rattle.cl_lex.specs.declared.item.Line.{Line}
use Rattle.cl_lex.specs.declared.item.Line.TheVariants.{Start}
use Rattle.cl_lex.specs.declared.tokens.Before.{Before}
use Rattle.cl_lex.specs.Source.{characters, values}
use Rattle.cl_lex.specs.Items.{IsItem, Tiles, on_line, takes_header}
use Rattle.cl_lex.specs.code.Machine.{is_include_line, line_by, line_of}
use Rattle.cl_lex.proofs.Machine.{include_kept, kept_on}
use Rattle.cl_lex.specs.Lexing.{Lexes, faults_by, faults_of, first_after, space_after, tokens_by, tokens_of}

-- with the items from here on, the tokens and faults so far are those of the text. `done` are the items before, the last
-- first
pub record Reached (text : List ℕ) (lexed : Lexed) (before : Before) (at : ℕ) : Type 0 where
  pub within : at ≤ length (values (characters text))
  pub done : List Item
  pub line : before.line ≡ line_of (on_line (values (characters text)) done)
  pub whole : (rest : List Item) → Tiles (values (characters text)) done at rest
      → Lexes text (record { tokens = lexed.tokens ++ tokens_of (characters text) before.space before.first rest; faults = lexed.faults ++ faults_of (characters text) rest })

added : {X : Type 0} → (old new more rest : List X) → new ≡ old ++ more → new ++ rest ≡ old ++ (more ++ rest)
added old new more rest e = ap (λ xs. xs ++ rest) e ∙ append_assoc old more rest

pub reaches_on : (text : List ℕ) (old new : Lexed) (before : Before) (at : ℕ) (it : Item) → Reached text old before at
    → it.from ≡ at → at < it.to → it.to ≤ length (values (characters text))
    → IsItem (values (characters text)) (is_include_line before.line) it.kind at it.to
    → new.tokens ≡ old.tokens ++ tokens_by (characters text) it.kind it before.space before.first
    → new.faults ≡ old.faults ++ faults_by (characters text) it.kind it
    → Reached text new (record { line = line_by before.line it.kind (slice_range (values (characters text)) it.from it.to); space = space_after it.kind; first = first_after it.kind before.first }) it.to
reaches_on text old new before at it h from some within item tokens faults = record {
  within = within;
  done = it ∷ h.done;
  line = ap (λ (l : Line). line_by l it.kind (slice_range (values (characters text)) it.from it.to)) h.line
      ∙ kept_on (values (characters text)) (on_line (values (characters text)) h.done) it.kind (slice_range (values (characters text)) it.from it.to);
  whole = λ rest tiles. let r = h.whole (it ∷ rest) (from, some, within, here, tiles) in record {
    items = r.items;
    tiles = r.tiles;
    tokens = added old.tokens new.tokens _ _ tokens ∙ r.tokens;
    faults = added old.faults new.faults _ _ faults ∙ r.faults;
  };
}
  where
    may : is_include_line before.line ≡ takes_header (values (characters text)) h.done
    may = ap is_include_line h.line ∙ include_kept (on_line (values (characters text)) h.done)

    here : IsItem (values (characters text)) (takes_header (values (characters text)) h.done) it.kind at it.to
    here = subst (λ (b : Bool). IsItem (values (characters text)) b it.kind at it.to) may item

-- the same, where the characters are known by another name
pub reaches_from : (text chars : List ℕ) (old new : Lexed) (before next : Before) (at : ℕ) (it : Item) → chars ≡ values (characters text) → Reached text old before at
    → it.from ≡ at → at < it.to → it.to ≤ length chars → IsItem chars (is_include_line before.line) it.kind at it.to
    → new.tokens ≡ old.tokens ++ tokens_by (characters text) it.kind it before.space before.first
    → new.faults ≡ old.faults ++ faults_by (characters text) it.kind it
    → next ≡ record { line = line_by before.line it.kind (slice_range chars it.from it.to); space = space_after it.kind; first = first_after it.kind before.first }
    → Reached text new next it.to
reaches_from text chars old new before next at it e h from some within item tokens faults is =
    subst (λ (b : Before). Reached text new b it.to) (sym is)
    (subst (λ (cs : List ℕ). Reached text new (record { line = line_by before.line it.kind (slice_range cs it.from it.to); space = space_after it.kind; first = first_after it.kind before.first }) it.to) (sym e)
    (reaches_on text old new before at it h from some (subst (λ (cs : List ℕ). it.to ≤ length cs) e within)
    (subst (λ (cs : List ℕ). IsItem cs (is_include_line before.line) it.kind at it.to) e item) tokens faults))

pub reaches_start : (text : List ℕ) (tokens : List Token) (faults : List Fault) → tokens ≡ [] → faults ≡ []
    → Reached text (record { tokens = tokens; faults = faults }) (record { line = Start; space = false; first = true }) 0
reaches_start text tokens faults e f = record {
  within = omega arith;
  done = [];
  line = refl;
  whole = λ rest tiles. record { items = rest; tiles = tiles; tokens = ap (λ xs. xs ++ tokens_of (characters text) false true rest) e; faults = ap (λ xs. xs ++ faults_of (characters text) rest) f };
}

pub reaches_end : (text chars : List ℕ) (lexed : Lexed) (before : Before) (at : ℕ) → chars ≡ values (characters text) → Reached text lexed before at
    → length chars ≤ at → Lexes text lexed
reaches_end text chars lexed before at e h l =
    let m : length (values (characters text)) ≤ at = subst (λ (cs : List ℕ). length cs ≤ at) e l in
    let r = h.whole [] (let w = h.within in omega arith) in record {
      items = r.items;
      tiles = r.tiles;
      tokens = sym (append-nil lexed.tokens) ∙ r.tokens;
      faults = sym (append-nil lexed.faults) ∙ r.faults;
    }
