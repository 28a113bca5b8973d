-- A text can be cut into items.
use Rattle.std.proofs.Common.{◌≡◌, ◌≢◌, ◌⊎◌, ℕ, zero, suc, ◌+◌, ◌-◌, ◌<◌, ◌≤◌, List, [], ◌∷◌, Bool, true, false, arith, inl, inr, refl, sym, ◌∙◌, length, slice_index}
use Rattle.std.proofs.lemmas.Bool.{false≢true}
use Rattle.cl_base.specs.declared.token.Kind.TheVariants as kind
use Rattle.cl_lex.specs.declared.item.Item.{Item}
use Rattle.cl_lex.specs.declared.item.ItemKind.{ItemKind}
use Rattle.cl_lex.specs.declared.item.ItemKind.TheVariants as item
use Rattle.cl_lex.specs.Bytes.{is_blank, is_digit, is_name_byte, is_name_start, is_quote}
use Rattle.cl_lex.specs.Spelling.{AllPass, HasNone, IsBetween, IsBlockComment, IsChar, IsHeader, IsIdent, IsLineComment, IsNumber, IsOpenComment, IsQuoted, IsStr, char_prefix, goes_on_number, is_escaped, str_prefix}
use Rattle.cl_lex.specs.Punctuators.{is_punctuator}
use Rattle.cl_lex.specs.Source.{characters, values}
use Rattle.cl_lex.specs.Items.{IsItem, IsLoneQuote, IsLongest, IsStray, Spells, Tiles, alone_len, takes_header}
use Rattle.cl_lex.specs.Lexing.{HasLexing, faults_of, tokens_of}
use Rattle.cl_lex.proofs.Decided.{Dec, Greatest, dec_and, dec_as, dec_bool, dec_eq, dec_if, dec_le, dec_five, dec_four, dec_lt, dec_not, dec_or, dec_six, dec_span, dec_three, greatest}
use Rattle.cl_lex.proofs.Longest.{alone_room, alone_some}
use Rattle.cl_lex.proofs.Pass.{one_more}

module _ (cs : List ℕ) where
  -- ---- what is spelled so can be told

  dec_at : (i c : ℕ) → Dec (slice_index cs i ≡ c)
  dec_at i c = dec_eq (slice_index cs i) c

  dec_pass : (f : ℕ → Bool) (from to : ℕ) → Dec (AllPass cs f from to)
  dec_pass f from to = dec_span (λ (i : ℕ). f (slice_index cs i) ≡ true) (λ i. dec_bool (f (slice_index cs i)) true) from to

  dec_none : (c from to : ℕ) → Dec (HasNone cs c from to)
  dec_none c from to = dec_span (λ (i : ℕ). slice_index cs i ≢ c) (λ i. dec_not (dec_at i c)) from to

  dec_ident : (from to : ℕ) → Dec (IsIdent cs from to)
  dec_ident from to = dec_three (dec_lt from to) (dec_bool (is_name_start (slice_index cs from)) true) (dec_pass is_name_byte from to)

  dec_number : (from to : ℕ) → Dec (IsNumber cs from to)
  dec_number from to =
      dec_three (dec_lt from to)
      (dec_or (dec_bool (is_digit (slice_index cs from)) true) (dec_three (dec_lt (from + 1) to) (dec_at from 46) (dec_bool (is_digit (slice_index cs (from + 1))) true)))
      (dec_as (λ all i low high. all i (omega arith) high) (λ all i low high. all i (omega arith) high)
      (dec_span (λ (i : ℕ). goes_on_number cs i ≡ true) (λ i. dec_bool (goes_on_number cs i) true) (from + 1) to))

  dec_quoted : (quote from close : ℕ) → Dec (IsQuoted cs quote from close)
  dec_quoted quote from close =
      dec_as (λ p. record { order = p.0; within = p.1; closes = p.2; free = p.3; one_line = p.4; first = p.5 })
      (λ q. (q.order, q.within, q.closes, q.free, q.one_line, q.first))
      (dec_six (dec_le from close) (dec_lt close (length cs)) (dec_at close quote) (dec_bool (is_escaped cs from (close - from)) false) (dec_none 10 from close)
      (dec_span (λ (i : ℕ). slice_index cs i ≡ quote → is_escaped cs from (i - from) ≡ true)
      (λ i. dec_if (dec_at i quote) (dec_bool (is_escaped cs from (i - from)) true)) from close))

  dec_char : (from to : ℕ) → Dec (IsChar cs from to)
  dec_char from to =
      dec_three (dec_at (from + char_prefix cs from) 39) (dec_lt (from + char_prefix cs from + 2) to) (dec_quoted 39 (from + char_prefix cs from + 1) (to - 1))

  dec_str : (from to : ℕ) → Dec (IsStr cs from to)
  dec_str from to =
      dec_three (dec_at (from + str_prefix cs from) 34) (dec_lt (from + str_prefix cs from + 1) to) (dec_quoted 34 (from + str_prefix cs from + 1) (to - 1))

  dec_between : (open_by close_by from to : ℕ) → Dec (IsBetween cs open_by close_by from to)
  dec_between open_by close_by from to =
      dec_six (dec_lt (from + 2) to) (dec_le to (length cs)) (dec_at from open_by) (dec_at (to - 1) close_by) (dec_none close_by (from + 1) (to - 1))
      (dec_none 10 (from + 1) (to - 1))

  dec_header : (from to : ℕ) → Dec (IsHeader cs from to)
  dec_header from to = dec_or (dec_between 60 62 from to) (dec_between 34 34 from to)

  abbrev NoEnd : ℕ → Type 0
  NoEnd i = slice_index cs i ≡ 42 → slice_index cs (i + 1) ≢ 47

  dec_star : (i : ℕ) → Dec (NoEnd i)
  dec_star i = dec_if (dec_at i 42) (dec_not (dec_at (i + 1) 47))

  dec_block : (from to : ℕ) → Dec (IsBlockComment cs from to)
  dec_block from to =
      dec_six (dec_le (from + 4) to) (dec_at from 47) (dec_at (from + 1) 42) (dec_at (to - 2) 42) (dec_at (to - 1) 47)
      (dec_as (λ all i low high. all i low (omega arith)) (λ all i low high. all i low (omega arith)) (dec_span NoEnd dec_star (from + 2) (to - 2)))

  dec_line : (from to : ℕ) → Dec (IsLineComment cs from to)
  dec_line from to = dec_four (dec_le (from + 2) to) (dec_at from 47) (dec_at (from + 1) 47) (dec_none 10 (from + 2) to)

  dec_open : (from to : ℕ) → Dec (IsOpenComment cs from to)
  dec_open from to =
      dec_five (dec_le (from + 2) to) (dec_eq to (length cs)) (dec_at from 47) (dec_at (from + 1) 42)
      (dec_as (λ all i low high. all i low (omega arith)) (λ all i low high. all i low (omega arith)) (dec_span NoEnd dec_star (from + 2) (to - 1)))

  dec_spells : (header : Bool) (k : ItemKind) (from to : ℕ) → Dec (Spells cs header k from to)
  dec_spells header (item.Token kind.Ident) from to = dec_ident from to
  dec_spells header (item.Token kind.Number) from to = dec_number from to
  dec_spells header (item.Token kind.Char) from to = dec_char from to
  dec_spells header (item.Token kind.Str) from to = dec_and (dec_str from to) (dec_if (dec_bool header true) (dec_not (dec_header from to)))
  dec_spells header (item.Token kind.Header) from to = dec_and (dec_bool header true) (dec_header from to)
  dec_spells header (item.Token kind.Punct) from to = dec_bool (is_punctuator cs from (to - from)) true
  dec_spells header (item.Token kind.Other) from to = inr (λ s. s)
  dec_spells header item.Comment from to = dec_or (dec_block from to) (dec_line from to)
  dec_spells header item.OpenComment from to = dec_open from to
  dec_spells header item.Space from to = dec_and (dec_lt from to) (dec_pass is_blank from to)
  dec_spells header item.NewLine from to = dec_and (dec_eq to (from + 1)) (dec_at from 10)

  -- ---- an item has a character at least

  punct_some : (from n : ℕ) → is_punctuator cs from n ≡ true → 0 < n
  punct_some from zero e = absurd (false≢true e)
  punct_some from (suc n) e = omega arith

  comment_some : (from to : ℕ) → IsBlockComment cs from to ⊎ IsLineComment cs from to → from < to
  comment_some from to (inl s) = omega (arith, s.0)
  comment_some from to (inr s) = omega (arith, s.0)

  header_some : (from to : ℕ) → IsHeader cs from to → from < to
  header_some from to (inl s) = omega (arith, s.0)
  header_some from to (inr s) = omega (arith, s.0)

  spells_some : (header : Bool) (k : ItemKind) (from to : ℕ) → Spells cs header k from to → from < to
  spells_some header (item.Token kind.Ident) from to s = s.0
  spells_some header (item.Token kind.Number) from to s = s.0
  spells_some header (item.Token kind.Char) from to s = omega (arith, s.1)
  spells_some header (item.Token kind.Str) from to s = let t = s.0 in omega (arith, t.1)
  spells_some header (item.Token kind.Header) from to s = header_some from to s.1
  spells_some header (item.Token kind.Punct) from to s = let l = punct_some from (to - from) s in omega (arith, l)
  spells_some header (item.Token kind.Other) from to s = absurd s
  spells_some header item.Comment from to s = comment_some from to s
  spells_some header item.OpenComment from to s = omega (arith, s.0)
  spells_some header item.Space from to s = s.0
  spells_some header item.NewLine from to s = omega (arith, s.0)

  -- ---- the kinds by numbers

  kind_of : ℕ → ItemKind
  kind_of zero = item.Token kind.Ident
  kind_of (suc zero) = item.Token kind.Number
  kind_of (suc (suc zero)) = item.Token kind.Char
  kind_of (suc (suc (suc zero))) = item.Token kind.Str
  kind_of (suc (suc (suc (suc zero)))) = item.Token kind.Header
  kind_of (suc (suc (suc (suc (suc zero))))) = item.Token kind.Punct
  kind_of (suc (suc (suc (suc (suc (suc zero)))))) = item.Comment
  kind_of (suc (suc (suc (suc (suc (suc (suc zero))))))) = item.OpenComment
  kind_of (suc (suc (suc (suc (suc (suc (suc (suc zero)))))))) = item.Space
  kind_of (suc (suc (suc (suc (suc (suc (suc (suc (suc zero))))))))) = item.NewLine
  kind_of _ = item.Token kind.Other

  -- an item of some kind
  record Some (header : Bool) (from to : ℕ) : Type 0 where
    what : ItemKind
    spells : Spells cs header what from to

  by_number : (header : Bool) (from to : ℕ) → ((i : ℕ) → i < 10 → Spells cs header (kind_of i) from to → ⊥) → (k : ItemKind) → Spells cs header k from to → ⊥
  unfolding kind_of
  by_number header from to none (item.Token kind.Ident) s = none 0 (omega arith) s
  by_number header from to none (item.Token kind.Number) s = none 1 (omega arith) s
  by_number header from to none (item.Token kind.Char) s = none 2 (omega arith) s
  by_number header from to none (item.Token kind.Str) s = none 3 (omega arith) s
  by_number header from to none (item.Token kind.Header) s = none 4 (omega arith) s
  by_number header from to none (item.Token kind.Punct) s = none 5 (omega arith) s
  by_number header from to none (item.Token kind.Other) s = s
  by_number header from to none item.Comment s = none 6 (omega arith) s
  by_number header from to none item.OpenComment s = none 7 (omega arith) s
  by_number header from to none item.Space s = none 8 (omega arith) s
  by_number header from to none item.NewLine s = none 9 (omega arith) s

  dec_some : (header : Bool) (from to : ℕ) → Dec (Some header from to)
  dec_some header from to = go (greatest (λ (i : ℕ). Spells cs header (kind_of i) from to) (λ i. dec_spells header (kind_of i) from to) 10)
    where
      go : Greatest (λ (i : ℕ). Spells cs header (kind_of i) from to) 10 ⊎ ((i : ℕ) → i < 10 → Spells cs header (kind_of i) from to → ⊥) → Dec (Some header from to)
      go (inl g) = inl (record { what = kind_of g.is; spells = g.holds })
      go (inr none) = inr (λ s. by_number header from to none s.what s.spells)

  -- ---- the next item

  pub record Next (header : Bool) (from : ℕ) : Type 0 where
    pub what : ItemKind
    pub to : ℕ
    pub some : from < to
    pub within : to ≤ length cs
    pub is : IsItem cs header what from to

  -- an item that is no Other token is the longest
  as_item : (header : Bool) (k : ItemKind) (from to : ℕ) → IsLongest cs header k from to → IsItem cs header k from to
  as_item header (item.Token kind.Ident) from to p = p
  as_item header (item.Token kind.Number) from to p = p
  as_item header (item.Token kind.Char) from to p = p
  as_item header (item.Token kind.Str) from to p = p
  as_item header (item.Token kind.Header) from to p = p
  as_item header (item.Token kind.Punct) from to p = p
  as_item header (item.Token kind.Other) from to p = absurd p.spells
  as_item header item.Comment from to p = p
  as_item header item.OpenComment from to p = p
  as_item header item.Space from to p = p
  as_item header item.NewLine from to p = p

  -- a quote goes on up to the end of its line
  abbrev Goes : ℕ → ℕ → Type 0
  Goes from to = (from < to) × ((i : ℕ) → from ≤ i → i < to → slice_index cs i ≡ 10 → ⊥)

  quote_line : (c : ℕ) → is_quote c ≡ true → c ≡ 10 → ⊥
  quote_line c e f = false≢true (let g : is_quote c ≡ false = rw f refl in sym g ∙ e)

  record Lone (from : ℕ) : Type 0 where
    to : ℕ
    is : IsLoneQuote cs from to

  lone : (from : ℕ) → from < length cs → is_quote (slice_index cs from) ≡ true → Lone from
  lone from within e = go (greatest (Goes from) (λ to. dec_and (dec_lt from to) (dec_none 10 from to)) (suc (length cs)))
    where
      first : Goes from (from + 1)
      first = (omega arith, λ i low high f. quote_line (slice_index cs i) (let same : i ≡ from = omega arith in rw same e) f)

      stop : (g : Greatest (Goes from) (suc (length cs))) → g.is < length cs → Dec (slice_index cs g.is ≡ 10) → slice_index cs g.is ≡ 10
      stop g l (inl f) = f
      stop g l (inr n) =
          absurd (g.most (g.is + 1) (omega arith) (omega arith)
          (let h = g.holds in (omega (arith, h.0), one_more (λ (i : ℕ). slice_index cs i ≡ 10 → ⊥) from g.is h.1 n)))

      go : Greatest (Goes from) (suc (length cs)) ⊎ ((i : ℕ) → i < suc (length cs) → Goes from i → ⊥) → Lone from
      go (inr none) = absurd (none (from + 1) (omega arith) first)
      go (inl g) = record {
        to = g.is;
        is = record {
          some = (let h = g.holds in h.0);
          within = omega (arith, g.below);
          quote = e;
          one_line = (let h = g.holds in h.1);
          ends = λ l. stop g l (dec_at g.is 10);
        };
      }

  next_stray : (header : Bool) (from : ℕ) → from < length cs → IsStray cs header from → Dec (is_quote (slice_index cs from) ≡ true) → Next header from
  next_stray header from within stray (inl e) =
      let l = lone from within e in record {
        what = item.Token kind.Other;
        to = l.to;
        some = l.is.some;
        within = l.is.within;
        is = (stray, inl l.is);
      }
  next_stray header from within stray (inr n) = record {
    what = item.Token kind.Other;
    to = from + alone_len cs from;
    some = (let s = alone_some cs from in omega (arith, s));
    within = alone_room cs from within;
    is = (stray, inr (no_quote (is_quote (slice_index cs from)) n, refl));
  }
    where
      no_quote : (b : Bool) → (b ≡ true → ⊥) → b ≡ false
      no_quote true n = absurd (n refl)
      no_quote false n = refl

  pub next : (header : Bool) (from : ℕ) → from < length cs → Next header from
  next header from within = go (greatest (Some header from) (dec_some header from) (suc (length cs)))
    where
      go : Greatest (Some header from) (suc (length cs)) ⊎ ((i : ℕ) → i < suc (length cs) → Some header from i → ⊥) → Next header from
      go (inl g) = record {
        what = g.holds.what;
        to = g.is;
        some = spells_some header g.holds.what from g.is g.holds.spells;
        within = omega (arith, g.below);
        is = as_item header g.holds.what from g.is (record {
          within = omega (arith, g.below);
          spells = g.holds.spells;
          longest = λ other m more end s. g.most m more (omega arith) (record { what = other; spells = s });
        });
      }
      go (inr none) =
          next_stray header from within (λ other m end s. none m (omega arith) (record { what = other; spells = s })) (dec_bool (is_quote (slice_index cs from)) true)

  -- ---- and all of them

  record Tiled (before : List Item) (at : ℕ) : Type 0 where
    items : List Item
    tiles : Tiles cs before at items

  -- from all later places on
  abbrev Rest : ℕ → Type 0
  Rest n = (before : List Item) (at : ℕ) → at ≤ length cs → length cs - at ≤ n → Tiled before at

  tiled : (n : ℕ) → Rest n
  tiled zero before at within few = record { items = []; tiles = omega arith }
  tiled (suc n) before at within few = go (dec_lt at (length cs)) (λ more. tiled n more)
    where
      more : Rest n → at < length cs → Next (takes_header cs before) at → Tiled before at
      more tiles l it =
          let first : Item = record { kind = it.what; from = at; to = it.to } in
          let rest = tiles (first ∷ before) it.to it.within (let s = it.some in omega (arith, s)) in record {
            items = first ∷ rest.items;
            tiles = (refl, it.some, it.within, it.is, rest.tiles);
          }

      go : Dec (at < length cs) → Rest n → Tiled before at
      go (inl l) tiles = more tiles l (next (takes_header cs before) at l)
      go (inr m) tiles = record { items = []; tiles = (let e : at < length cs ⊎ at ≡ length cs = grind arith in ended e) }
        where
          ended : at < length cs ⊎ at ≡ length cs → at ≡ length cs
          ended (inl l) = absurd (m l)
          ended (inr e) = e

pub some_lexed : (text : List ℕ) → HasLexing text
some_lexed text =
    let all = tiled (values (characters text)) (length (values (characters text))) [] 0 (omega arith) (omega arith) in record {
      lexed = record { tokens = tokens_of (characters text) false true all.items; faults = faults_of (characters text) all.items };
      lexes = record { items = all.items; tiles = all.tiles; tokens = refl; faults = refl };
    }
