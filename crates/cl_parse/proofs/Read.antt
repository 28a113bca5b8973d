-- From item to item through what is read of a file.
use Rattle.std.proofs.Common.{◌≡◌, ℕ, ◌<◌, ◌≤◌, List, [], ◌∷◌, ◌++◌, length, take, map, sym, ap, ◌∙◌, subst, inl, inr, arith, length-take-le}
use Rattle.std.proofs.lemmas.List.{take-append-le, take_all}
use Rattle.std.specs.Prelude.{slice_get, slice_range}
use Rattle.cl_base.specs.declared.token.PpToken.{PpToken}
use Rattle.cl_tree.specs.Brackets.{bad_extent}
use Rattle.cl_tree.specs.Derives.{External, end}
use Rattle.cl_tree.specs.Lexemes.{lexemes_from, lexemes_to}
use Rattle.cl_tree.specs.Scopes.{empty, known}
use Rattle.cl_tree.specs.Sets.{has}
use Rattle.cl_tree.specs.declared.lexeme.Lexeme.{Lexeme}
use Rattle.cl_tree.specs.declared.scope.Change.{Change}
use Rattle.cl_tree.specs.declared.scope.Scope.{Scope}
use Rattle.cl_tree.specs.declared.set.NameSet.{NameSet}
use Rattle.cl_tree.specs.declared.tree.Tree.{Tree}
use Rattle.cl_parse.specs.Extents.{Extent}
use Rattle.cl_parse.specs.Items.{IsProper, ItemTiles, Names, learned}
use Rattle.cl_parse.specs.code.Ahead.{AreAnew, AreNamed, Covers, retyped, word_of}
use Rattle.cl_parse.specs.code.Marks.{AreMarks}
use Rattle.cl_parse.specs.code.Reading.{IsExtended, IsNext, IsSettled, Reads, before}
use Rattle.cl_parse.specs.declared.ahead.Places.{Places}
use Rattle.cl_parse.specs.declared.item.Item.TheVariants.{Proper, Bad}
use Rattle.cl_parse.specs.declared.marks.Marks.{Marks}
use Rattle.cl_parse.specs.declared.parse.Next.{Next}
use Rattle.cl_parse.specs.declared.parse.Reading.{Reading}
use Rattle.cl_parse.proofs.OneExtent.{one_extent}
use Rattle.cl_parse.proofs.Anew.{take_same}
use Rattle.cl_parse.proofs.Lexed.{to_further, to_front, to_itself, to_length}
use Rattle.cl_parse.proofs.Retyped.{anew_behind, append_get, named_behind, retyped_from}

module _ (tokens : List PpToken) (pairs : List ℕ) where
  -- what was read with these names from one token on
  abbrev From : Names → ℕ → List Lexeme → Type 0
  From names at a = a ≡ lexemes_to names pairs tokens (take at a) (length a)

  -- is so from a later one on
  front : (names : Names) (a : List Lexeme) (at to : ℕ) → From names at a → at ≤ to → to ≤ length a → length a ≤ length tokens → take to a ≡ lexemes_to names pairs tokens (take at a) to
  front names a at to e l m n =
      let k : length (take at a) ≡ at = length-take-le at a (omega arith) in
      ap (take to) e ∙ to_front names pairs tokens (take at a) to (length a) (omega arith) m n

  from_later : (names : Names) (a : List Lexeme) (at to : ℕ) → From names at a → at ≤ to → to ≤ length a → length a ≤ length tokens → From names to a
  from_later names a at to e l m n =
      let k : length (take at a) ≡ at = length-take-le at a (omega arith) in
      e ∙ sym (to_further names pairs tokens (take at a) to (length a) (omega arith) m n) ∙ ap (λ (r : List Lexeme). lexemes_to names pairs tokens r (length a)) (sym (front names a at to e l m n))

  -- what was read, and nothing ahead
  from_end : (names : Names) (a : List Lexeme) (to : ℕ) → length a ≡ to → From names to a
  from_end names a to e =
      sym (to_itself names pairs tokens a) ∙ ap (λ (r : List Lexeme). lexemes_to names pairs tokens r (length a)) (sym (take_all to a (omega arith)))

  -- more is read
  further : (names : Names) (a b : List Lexeme) (at to : ℕ) → From names at a → at ≤ length a → length a ≤ to → to ≤ length tokens → b ≡ lexemes_to names pairs tokens a to
      → (length b ≡ to) × (take at b ≡ take at a) × From names at b
  further names a b at to e l m n f =
      let k : length (take at a) ≡ at = length-take-le at a l in
      let size : length b ≡ to = ap length f ∙ to_length names pairs tokens a to m n in
      let same : take at b ≡ take at a = ap (take at) f ∙ take-append-le at a (lexemes_from names pairs tokens (length a) (slice_range tokens (length a) to)) l in (
        size,
        same,
        f ∙ ap (λ (r : List Lexeme). lexemes_to names pairs tokens r to) e ∙ to_further names pairs tokens (take at a) (length a) to (omega arith) m n
            ∙ ap (λ (r : List Lexeme). lexemes_to names pairs tokens r to) (sym same) ∙ ap (λ (k : ℕ). lexemes_to names pairs tokens (take at b) k) (sym size),
      )

  -- more tokens are read
  pub extends : (old new : Reading) (to : ℕ) → Reads tokens pairs old → length old.ahead.items ≤ to → to ≤ length tokens → new.ahead.items ≡ lexemes_to (has old.names) pairs tokens old.ahead.items to
      → new.names ≡ old.names → new.at ≡ old.at → new.marks ≡ old.marks → new.places ≡ old.places → IsExtended tokens pairs old to new
  extends old new to reads l m is names place marks places =
      let n = length old.ahead.items in
      let f = further (has old.names) old.ahead.items new.ahead.items old.at to reads.ahead reads.within l m is in
      let size : length new.ahead.items ≡ to = f.0 in
      let within : old.at ≤ n = reads.within in
      let short : old.places.upto ≤ n = reads.covers.short in
      let covers : Covers old.places new.ahead.items old.at = record {
        short = omega (arith, short, size, l);
        finds = λ i name k m e. reads.covers.finds i name k m (ap word_of (sym (append_get old.ahead.items (lexemes_from (has old.names) pairs tokens n (slice_range tokens n to)) i (omega (arith, m, short))) ∙ ap (λ (ts : List Lexeme). slice_get ts i) (sym is)) ∙ e);
      } in
      record {
        reads = record {
          within = omega (arith, place, within, size, l);
          short = omega (arith, size, m);
          ahead = subst (λ (s : NameSet). new.ahead.items ≡ lexemes_to (has s) pairs tokens (before new) (length new.ahead.items)) (sym names)
              (subst (λ (k : ℕ). new.ahead.items ≡ lexemes_to (has old.names) pairs tokens (take k new.ahead.items) (length new.ahead.items)) (sym place) f.2);
          covers = subst (λ (p : Places). Covers p new.ahead.items new.at) (sym places) (subst (Covers old.places new.ahead.items) (sym place) covers);
          from = ap (λ (m : Marks). m.from) marks ∙ reads.from ∙ sym place;
          marks = subst (AreMarks tokens pairs) (sym marks) reads.marks;
        };
        far = omega (arith, size);
        names = names;
        at = place;
        marks = marks;
        before = ap (λ (k : ℕ). take k new.ahead.items) place ∙ f.1;
      }

  pub before_length : (r : Reading) → Reads tokens pairs r → length (before r) ≡ r.at
  before_length r reads = length-take-le r.at r.ahead.items reads.within

  -- where places were found from one token on, they are from a later one on
  pub covers_later : (places : Places) (ts : List Lexeme) (at to : ℕ) → at ≤ to → Covers places ts at → Covers places ts to
  covers_later places ts at to l c = record { short = c.short; finds = λ i name m n e. c.finds i name (omega (arith, l, m)) n e }

  pub bad_next : (old : Reading) (marks : Marks) (to dead : ℕ) → Reads tokens pairs old → old.at < length tokens → old.at < to → to ≤ length old.ahead.items → to ≡ bad_extent tokens pairs old.at (length tokens)
      → ((t : Tree) (w : Scope) → IsProper tokens pairs (has old.names) (before old) t w → ⊥) → marks.from ≡ to → AreMarks tokens pairs marks
      → (to < dead → (dead ≤ length old.ahead.items) × ((t : Tree) (w : Scope) → External (take dead old.ahead.items) empty to t w → ⊥))
      → IsNext tokens pairs old (record { item = Bad old.at to; reading = record { names = old.names; ahead = old.ahead; at = to; marks = marks; places = old.places }; dead = dead })
  bad_next old marks to dead reads l m w e none f k d =
      let size : length (before old) ≡ old.at = before_length old reads in
      let front_is : take to old.ahead.items ≡ lexemes_to (has old.names) pairs tokens (before old) to = front (has old.names) old.ahead.items old.at to reads.ahead (omega arith) w reads.short in
      record {
        reads = record {
          within = w;
          short = reads.short;
          ahead = from_later (has old.names) old.ahead.items old.at to reads.ahead (omega arith) w reads.short;
          covers = covers_later old.places old.ahead.items old.at to (omega arith) reads.covers;
          from = f;
          marks = k;
        };
        further = m;
        dead = d;
        tiles = λ items tiles. (omega arith, record { starts = sym size; ends = e; none = none }, subst (λ (r : List Lexeme). ItemTiles tokens pairs (has old.names) r items) front_is tiles);
      }

  -- what lies ahead of an item has the names that are known there
  pub ahead_named : (old : Reading) (to : ℕ) → Reads tokens pairs old → old.at ≤ to → to ≤ length old.ahead.items → AreNamed (has old.names) old.ahead.items to
  ahead_named old to reads l w =
      let names = has old.names in
      let all = old.ahead.items in
      let start = take to all in
      let size : length start ≡ to = length-take-le to all w in
      let behind = lexemes_from names pairs tokens (length start) (slice_range tokens (length start) (length all)) in
      let is : all ≡ start ++ behind = from_later names all old.at to reads.ahead l w reads.short in
      let same : behind ≡ map (retyped names) behind = sym (retyped_from pairs tokens names names (length start) (slice_range tokens (length start) (length all))) in
      subst (λ (k : ℕ). AreNamed names all k) size (subst (λ (ts : List Lexeme). AreNamed names ts (length start)) (sym is) (named_behind names start behind same))

  -- with other names it was read with them
  anew_reads : (old names : Names) (all new : List Lexeme) (to : ℕ) → From old to all → to ≤ length all → AreAnew names to all new → From names to new × (take to new ≡ take to all)
  anew_reads old names all new to e w a =
      let start = take to all in
      let size : length start ≡ to = length-take-le to all w in
      let ts = slice_range tokens (length start) (length all) in
      let behind = lexemes_from old pairs tokens (length start) ts in
      let anew : AreAnew names (length start) (start ++ behind) new = subst (λ (xs : List Lexeme). AreAnew names (length start) xs new) e (subst (λ (k : ℕ). AreAnew names k all new) (sym size) a) in
      let is : new ≡ start ++ lexemes_from names pairs tokens (length start) ts = anew_behind names start behind new anew ∙ ap (λ (ls : List Lexeme). start ++ ls) (retyped_from pairs tokens old names (length start) ts) in
      let same : take to new ≡ start = take_same to new all a.front in
      (is ∙ ap (lexemes_to names pairs tokens start) (sym a.count) ∙ ap (λ (r : List Lexeme). lexemes_to names pairs tokens r (length new)) (sym same), same)

  settled_reads : (old new : Reading) (changes : List Change) (to : ℕ) (marks : Marks) → Reads tokens pairs old → old.at < to → to ≤ length old.ahead.items → marks.from ≡ to → AreMarks tokens pairs marks
      → IsSettled old changes to marks new → Reads tokens pairs new × (before new ≡ take to old.ahead.items)
  settled_reads old new changes to marks reads l w f k s =
      let short : length old.ahead.items ≤ length tokens = reads.short in
      let place : new.at ≡ to = s.at in
      let later : From (has old.names) to old.ahead.items = from_later (has old.names) old.ahead.items old.at to reads.ahead (omega arith) w short in
      let both = anew_reads (has old.names) (has new.names) old.ahead.items new.ahead.items to later w s.ahead_is in
      let size : length new.ahead.items ≡ length old.ahead.items = s.ahead_is.count in (
        record {
          within = omega arith;
          short = omega arith;
          ahead = subst (λ (n : ℕ). From (has new.names) n new.ahead.items) (sym place) both.0;
          covers = subst (Covers new.places new.ahead.items) (sym place) s.covers;
          from = ap (λ (m : Marks). m.from) s.marks_are ∙ f ∙ sym s.at;
          marks = subst (AreMarks tokens pairs) (sym s.marks_are) k;
        },
        ap (λ (n : ℕ). take n new.ahead.items) place ∙ both.1,
      )

  pub proper_next : (old new : Reading) (tree : Tree) (after : Scope) (to : ℕ) (marks : Marks) → Reads tokens pairs old → old.at < to → to ≤ length old.ahead.items → end tree ≡ to → marks.from ≡ to → AreMarks tokens pairs marks
      → IsProper tokens pairs (has old.names) (before old) tree after → IsSettled old after.changes to marks new
      → IsNext tokens pairs old (record { item = Proper tree; reading = new; dead = 0 })
  proper_next old new tree after to marks reads l w e f k p s =
      let short : length old.ahead.items ≤ length tokens = reads.short in
      let size : length (before old) ≡ old.at = before_length old reads in
      let both = settled_reads old new after.changes to marks reads l w f k s in
      let is : take to old.ahead.items ≡ lexemes_to (has old.names) pairs tokens (before old) (end tree) =
      front (has old.names) old.ahead.items old.at to reads.ahead (omega arith) w short ∙ ap (lexemes_to (has old.names) pairs tokens (before old)) (sym e) in
      let place : new.at ≡ to = s.at in
      let names : has new.names ≡ learned (has old.names) (lexemes_to (has old.names) pairs tokens (before old) (end tree)) after =
      λ i name. (s.names_are name ∙ ap (λ (r : List Lexeme). known r after.changes (has old.names name) name) is) i in
      record {
        reads = both.0;
        further = omega arith;
        dead = λ less. absurd (omega (arith, less));
        tiles = λ items tiles. (
          omega arith,
          after,
          p,
          subst (λ (r : List Lexeme). ItemTiles tokens pairs (learned (has old.names) (lexemes_to (has old.names) pairs tokens (before old) (end tree)) after) r items) (both.1 ∙ is)
              (subst (λ (n : Names). ItemTiles tokens pairs n (before new) items) names tiles),
        );
      }

  -- ---- what the parser found

  external_end : (ts : List Lexeme) (at : ℕ) (t : Tree) (w : Scope) → External ts empty at t w → end t ≡ length ts
  external_end ts at t w (inl d) = d.to
  external_end ts at t w (inr d) = d.to

  pub ends_there : (a : List Lexeme) (at to : ℕ) (t : Tree) (w : Scope) → to ≤ length a → External (take to a) empty at t w → end t ≡ to
  ends_there a at to t w l x = external_end (take to a) at t w x ∙ length-take-le to a l

  pub proper_of : (r : Reading) (to : ℕ) (t : Tree) (w : Scope) → Reads tokens pairs r → r.at < to → to ≤ length r.ahead.items → Extent tokens pairs r.at to → External (take to r.ahead.items) empty r.at t w
      → IsProper tokens pairs (has r.names) (before r) t w
  proper_of r to t w reads l m e x =
      let size : length (before r) ≡ r.at = before_length r reads in
      let last : end t ≡ to = ends_there r.ahead.items r.at to t w m x in
      let is : take to r.ahead.items ≡ lexemes_to (has r.names) pairs tokens (before r) (end t) =
      front (has r.names) r.ahead.items r.at to reads.ahead (omega arith) m reads.short ∙ ap (lexemes_to (has r.names) pairs tokens (before r)) (sym last) in
      record {
        extent = subst (λ (n : ℕ). Extent tokens pairs n (end t)) (sym size) (subst (Extent tokens pairs r.at) (sym last) e);
        derives = subst (λ (n : ℕ). External (lexemes_to (has r.names) pairs tokens (before r) (end t)) empty n t w) (sym size) (subst (λ (ts : List Lexeme). External ts empty r.at t w) is x);
      }

  pub external_of : (r : Reading) (to : ℕ) (t : Tree) (w : Scope) → Reads tokens pairs r → r.at < to → to ≤ length r.ahead.items → Extent tokens pairs r.at to
      → IsProper tokens pairs (has r.names) (before r) t w → External (take to r.ahead.items) empty r.at t w
  external_of r to t w reads l m e p =
      let size : length (before r) ≡ r.at = before_length r reads in
      let last : end t ≡ to = one_extent tokens pairs r.at (end t) to (subst (λ (n : ℕ). Extent tokens pairs n (end t)) size p.extent) e in
      let is : take to r.ahead.items ≡ lexemes_to (has r.names) pairs tokens (before r) (end t) =
      front (has r.names) r.ahead.items r.at to reads.ahead (omega arith) m reads.short ∙ ap (lexemes_to (has r.names) pairs tokens (before r)) (sym last) in
      subst (λ (ts : List Lexeme). External ts empty r.at t w) (sym is) (subst (λ (n : ℕ). External (lexemes_to (has r.names) pairs tokens (before r) (end t)) empty n t w) size p.derives)

  -- the same by what is read further
  pub next_of : (old new : Reading) (to : ℕ) (next : Next) → IsExtended tokens pairs old to new → IsNext tokens pairs new next → IsNext tokens pairs old next
  next_of old new to next x n = record {
    reads = n.reads;
    further = subst (λ (k : ℕ). k < next.reading.at) x.at n.further;
    dead = n.dead;
    tiles = λ items tiles. subst (λ (r : List Lexeme). ItemTiles tokens pairs (has old.names) r (next.item ∷ items)) x.before
        (subst (λ (s : NameSet). ItemTiles tokens pairs (has s) (before new) (next.item ∷ items)) x.names (n.tiles items tiles));
  }

  -- ---- before the first item

  pub starts_reads : (r : Reading) → r.ahead.items ≡ [] → r.at ≡ 0 → r.places.upto ≡ 0 → r.marks.from ≡ 0 → AreMarks tokens pairs r.marks → Reads tokens pairs r
  starts_reads r e at none f m =
      let size : length r.ahead.items ≡ 0 = ap length e in
      record {
        within = omega arith;
        short = omega arith;
        ahead = from_end (has r.names) r.ahead.items r.at (size ∙ sym at);
        covers = record { short = omega arith; finds = λ i name l k w. absurd (omega (arith, k, none)) };
        from = f ∙ sym at;
        marks = m;
      }
