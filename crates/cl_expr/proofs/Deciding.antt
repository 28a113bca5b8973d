-- Each nonterminal has a tree from a token on, or it has none: what the parser finds with memory enough, step by step.
use Rattle.std.proofs.Common.{◌≡◌, ℕ, zero, suc, ◌+◌, ◌≤◌, ◌<◌, List, [], ◌∷◌, ◌++◌, ◌⊎◌, inl, inr, ⊎_elim, arith, refl, sym, ◌∙◌, ap, subst, length, max, Bool, true, false}
use Rattle.std.specs.Prelude.{Option, Some, None}
use Rattle.std.proofs.lemmas.Bool.{cases_lt}
use Rattle.cl_tree.specs.declared.class.Class.{Class}
use Rattle.cl_tree.specs.declared.class.Class.TheVariants as cl
use Rattle.cl_tree.specs.declared.nonterminal.Nonterminal.{Nonterminal}
use Rattle.cl_tree.specs.declared.nonterminal.Nonterminal.TheVariants as nt
use Rattle.cl_tree.specs.declared.grammar.Act.{Act}
use Rattle.cl_tree.specs.declared.grammar.Act.TheVariants as ac
use Rattle.cl_tree.specs.declared.grammar.Terminal.{Terminal}
use Rattle.cl_tree.specs.declared.grammar.Symbol.{Symbol}
use Rattle.cl_tree.specs.declared.grammar.Symbol.TheVariants.{Token, Node, Entry}
use Rattle.cl_tree.specs.declared.grammar.Separator.{Separator}
use Rattle.cl_tree.specs.declared.tree.Tree.{Tree}
use Rattle.cl_tree.specs.declared.lexeme.Lexeme.{Lexeme}
use Rattle.cl_tree.specs.declared.scope.Scope.{Scope}
use Rattle.cl_tree.specs.Scopes.{class_at, pass, leave}
use Rattle.cl_tree.specs.Grammar.{takes}
use Rattle.cl_tree.specs.Derives.{Has, start, end, leaf, bad, Opened, SpansFrom, External}
use Rattle.cl_tree.specs.BadItems.{closes_at, bad_end}
use Rattle.cl_expr.specs.declared.table.Edge.{Edge}
use Rattle.cl_expr.specs.declared.table.Label.{Label}
use Rattle.cl_expr.specs.declared.reader.Found.{Found}
use Rattle.cl_expr.specs.code.Table.{edges, name_of, bars, scoped, turn, home, kinds, openers, suffixes, past_else}
use Rattle.cl_expr.specs.code.Paths.{node, Lost, At}
use Rattle.cl_expr.specs.code.Parses.{Begins, Enters, Parses, Part, Half, Builds, Ends, Stuck, Opens, Sound, GoesOn, Steps, Climbs}
use Rattle.cl_expr.proofs.Bridge.{to_derives, of_derives}
use Rattle.cl_expr.proofs.Settled.{Settled, same_number, same_class, has_class, has_place, among, enters, goes_on, opened}
use Rattle.cl_expr.proofs.Checks.{some_is, none_not}
use Rattle.cl_expr.proofs.Conditions.{suffix}
use Rattle.cl_expr.proofs.Growth.{end_within, end_grows}
use Rattle.cl_expr.proofs.Within.{class_within}
use Rattle.cl_expr.proofs.Reading.{Reading, reading_start, reading_stuck, reading_on, reading_builds, reading_some, nothing_stuck, barred_none, node_unnamed, node_ended, part_leaf, part_apart_leaf, part_flat, part_node, part_after, part_apart, entry_found, entry_past, entry_brace, entry_closed, entry_bad, entry_flat}
use Rattle.cl_expr.proofs.Endings.{not_over, not_else}
use Rattle.cl_expr.proofs.WithElse.{lost_stuck, lost_free, else_half, else_stuck, else_free, else_ends, past_mid}
use Rattle.cl_expr.proofs.Climb.{Climbing, climbs_start, climbs_stuck, climbs_on, climbs_end, steps_high, half_step, step_unnamed, steps_by, opens_past, opens_none, opens_by, half_start, start_unnamed, nothing_flat, parses_shunned, nothing_opens, parses_none, parses_other, parses_some, whole_found, whole_only}

-- the parser's answer, with what it says
abbrev pub Answer : List Lexeme → ℕ → Scope → Nonterminal → ℕ → Type 0
Answer cs h s g at = (r : Option Found) × Parses cs h s g at r

-- that of a part
abbrev PartOf : List Lexeme → ℕ → Scope → Option Separator → Symbol → ℕ → Type 0
PartOf cs h s b x at = (r : Option Found) × Part cs h s b x at r

module _ (cs : List Lexeme) (h : ℕ) (s : Scope) (c : Terminal) (a : Act) (at : ℕ) where
  taken_part : (k : Class) → class_at cs s at ≡ Some k → Settled (Has (takes c) k) → PartOf cs (suc h) s None (Token c a) at
  taken_part k token (inl has) = (Some (record { tree = leaf at; place = 0; scope = pass cs s a at; height = 1 }), part_leaf cs (suc h) s c a k at token has (omega arith))
  taken_part k token (inr not) = (None, part_apart_leaf cs (suc h) s c a at (λ k' token' has. not (subst (Has (takes c)) (some_is (sym token' ∙ token)) has)))

  there_part : (o : Option Class) → class_at cs s at ≡ o → PartOf cs (suc h) s None (Token c a) at
  there_part None past = (None, part_apart_leaf cs (suc h) s c a at (λ k token has. none_not (sym past ∙ token)))
  there_part (Some k) token = taken_part k token (has_class (takes c) k)

token_part : (cs : List Lexeme) (h : ℕ) (s : Scope) (c : Terminal) (a : Act) (at : ℕ) → PartOf cs h s None (Token c a) at
token_part cs zero s c a at = (None, part_flat cs s c a at)
token_part cs (suc h) s c a at = there_part cs h s c a at (class_at cs s at) refl

-- an item of a block, or what is none
module _ (cs : List Lexeme) (h : ℕ) (s : Scope) (at : ℕ) where
  closed_item : Parses cs (suc h) s nt.BlockItem at None → (k : Class) → class_at cs s at ≡ Some k → (k ≡ cl.RightBrace → ⊥) → (b : Bool) → closes_at cs at ≡ b → PartOf cs (suc h) s None Entry at
  closed_item p k token not true closes = (None, entry_closed cs (suc h) s at p closes)
  closed_item p k token not false closes = (
    Some (record { tree = bad at (bad_end cs at); place = 0; scope = s; height = 1 }),
    entry_bad cs (suc h) s at p k token not closes (omega arith) (end_grows cs at (class_within cs s at k token) closes) (end_within cs at),
  )

  read_item : (k : Class) → class_at cs s at ≡ Some k → (k ≡ cl.RightBrace → ⊥) → (o : Option Found) → Parses cs (suc h) s nt.BlockItem at o → PartOf cs (suc h) s None Entry at
  read_item k token not None p = closed_item p k token not (closes_at cs at) refl
  read_item k token not (Some f) p = (Some f, entry_found cs (suc h) s at f p)

  open_item : Answer cs (suc h) s nt.BlockItem at → (k : Class) → class_at cs s at ≡ Some k → Settled (k ≡ cl.RightBrace) → PartOf cs (suc h) s None Entry at
  open_item a k token (inl brace) = (None, entry_brace cs (suc h) s at k token brace)
  open_item a k token (inr not) = read_item k token not a.0 a.1

  there_item : Answer cs (suc h) s nt.BlockItem at → (o : Option Class) → class_at cs s at ≡ o → PartOf cs (suc h) s None Entry at
  there_item a None past = (None, entry_past cs (suc h) s at past)
  there_item a (Some k) token = open_item a k token (same_class k cl.RightBrace)

entry_part : (cs : List Lexeme) (h : ℕ) (s : Scope) (at : ℕ) → Answer cs h s nt.BlockItem at → PartOf cs h s None Entry at
entry_part cs zero s at a = (None, entry_flat cs s at)
entry_part cs (suc h) s at a = there_item cs h s at a (class_at cs s at) refl

module _ (cs : List Lexeme) (h : ℕ) (nest : (s : Scope) (g : Nonterminal) (at : ℕ) → Answer cs h s g at) where
  symbol_part : (s : Scope) (x : Symbol) (at : ℕ) → PartOf cs h s None x at
  symbol_part s (Token c a) at = token_part cs h s c a at
  symbol_part s (Node g) at = (let a = nest s g at in (a.0, part_node cs h s g at a.0 a.1))
  symbol_part s Entry at = entry_part cs h s at (nest s nt.BlockItem at)

  separated_part : (s : Scope) (b : Separator) (x : Symbol) (at : ℕ) (k : Class) → class_at cs s at ≡ Some k → Settled (b.class ≡ k) → PartOf cs h s (Some b) x at
  separated_part s b x at k token (inl same) = (let a = symbol_part (pass cs s b.act at) x (at + 1) in (a.0, part_after cs h s b x at a.0 (token ∙ ap Some (sym same)) a.1))
  separated_part s b x at k token (inr not) = (None, part_apart cs h s b x at (λ token'. not (some_is (sym token' ∙ token))))

  after_part : (s : Scope) (b : Separator) (x : Symbol) (at : ℕ) (o : Option Class) → class_at cs s at ≡ o → PartOf cs h s (Some b) x at
  after_part s b x at None past = (None, part_apart cs h s b x at (λ token. none_not (sym past ∙ token)))
  after_part s b x at (Some k) token = separated_part s b x at k token (same_class b.class k)

  part : (s : Scope) (b : Option Separator) (x : Symbol) (at : ℕ) → PartOf cs h s b x at
  part s None x at = symbol_part s x at
  part s (Some b) x at = after_part s b x at (class_at cs s at) refl

  -- a node that may end
  module _ (sa : Scope) (from : ℕ) where
    abbrev NodeOf : Scope → ℕ → List Tree → ℕ → Type 0
    NodeOf sm q ps mid = (r : Option Found) × Ends cs h sa sm q ps from mid r

    abbrev Named : ℕ → ℕ → Type 0
    Named q mid = (l : Label) → name_of q ≡ Some l → from < mid

    abbrev Free : Scope → ℕ → ℕ → Type 0
    Free sm q mid = (k : Class) → class_at cs sm mid ≡ Some k → Has (bars q) k → Lost (At cs h) cs k sm mid

    labelled : (sm : Scope) (q : ℕ) (ps : List Tree) (mid height : ℕ) → Half cs h sa sm q ps from mid height → Named q mid → Stuck cs h sm q mid → Free sm q mid → (o : Option Label) → name_of q ≡ o → NodeOf sm q ps mid
    labelled sm q ps mid height half some stuck free None is = (None, node_unnamed cs h sa sm q ps from mid height half stuck is)
    labelled sm q ps mid height half some stuck free (Some n) is = (
      Some (record { tree = node n from mid ps; place = q; scope = leave (scoped q) sa sm; height = height + 1 }),
      node_ended cs h sa sm q ps from mid height half stuck n (some n is) (is, free),
    )

    node_of : (sm : Scope) (q : ℕ) (ps : List Tree) (mid height : ℕ) → Half cs h sa sm q ps from mid height → Named q mid → Stuck cs h sm q mid → Free sm q mid → NodeOf sm q ps mid
    node_of sm q ps mid height half some stuck free = labelled sm q ps mid height half some stuck free (name_of q) refl

    -- with an `else` there
    module _ (sm : Scope) (q : ℕ) (ps : List Tree) (mid height : ℕ) (half : Half cs h sa sm q ps from mid height) (some : Named q mid) where
      with_else : class_at cs sm mid ≡ Some cl.Else → Has (bars q) cl.Else → (o : Option Found) → Parses cs h (pass cs sm ac.Close mid) nt.Statement (mid + 1) o → NodeOf sm q ps mid
      with_else token bar None p =
          node_of sm q ps mid height half some (lost_stuck cs h sa sm q ps from mid height token bar p) (lost_free cs h sa sm q ps from mid height token bar p)
      with_else token bar (Some f) p =
          let q' = turn past_else f.place in
          let m = max height f.height in
          let beyond : mid < end f.tree = past_mid cs h sa sm q ps from mid height token bar half f p in
          let a = node_of f.scope q' ((ps ++ leaf mid ∷ []) ++ f.tree ∷ []) (end f.tree) m (else_half cs h sa sm q ps from mid height token bar half f p q' m refl refl) (λ l is. omega (arith, half.above))
          (else_stuck cs h sa sm q ps from mid height token bar half f p q' m refl refl) (else_free cs h sa sm q ps from mid height token bar half f p q' m refl refl) in
          (a.0, else_ends cs h sa sm q ps from mid height token bar half f p q' m refl refl a.0 a.1)

      module _ (over : (k : Class) → class_at cs sm mid ≡ Some k → Enters q k → (k ≡ cl.Else) × Has (bars q) k) where
        -- none is there that may be taken
        plain_end : (class_at cs sm mid ≡ Some cl.Else → Has (bars q) cl.Else → ⊥) → (k : Class) → class_at cs sm mid ≡ Some k → Settled (Has (bars q) k) → NodeOf sm q ps mid
        plain_end free k token (inl bar) = (None, barred_none cs h sa sm q ps from mid (nothing_stuck cs h sm q mid (not_over cs sm q mid over free)) k token bar (not_else cs sm q mid free k token bar))
        plain_end free k token (inr not) =
            node_of sm q ps mid height half some (nothing_stuck cs h sm q mid (not_over cs sm q mid over free)) (λ k' token' bar. absurd (not (subst (Has (bars q)) (some_is (sym token' ∙ token)) bar)))

        barred_end : (k : Class) → class_at cs sm mid ≡ Some k → k ≡ cl.Else → Settled (Has (bars q) cl.Else) → NodeOf sm q ps mid
        barred_end k token is (inl bar) = (let a = nest (pass cs sm ac.Close mid) nt.Statement (mid + 1) in with_else (token ∙ ap Some is) bar a.0 a.1)
        barred_end k token is (inr not) = plain_end (λ t. not) k token (has_class (bars q) k)

        token_end : (k : Class) → class_at cs sm mid ≡ Some k → Settled (k ≡ cl.Else) → NodeOf sm q ps mid
        token_end k token (inl is) = barred_end k token is (has_class (bars q) cl.Else)
        token_end k token (inr not) = plain_end (λ t bar. not (some_is (sym token ∙ t))) k token (has_class (bars q) k)

        there_end : (o : Option Class) → class_at cs sm mid ≡ o → NodeOf sm q ps mid
        there_end None past =
            node_of sm q ps mid height half some (nothing_stuck cs h sm q mid (λ k token enters. none_not (sym past ∙ token))) (λ k token bar. absurd (none_not (sym past ∙ token)))
        there_end (Some k) token = token_end k token (same_class k cl.Else)

        ending : NodeOf sm q ps mid
        ending = there_end (class_at cs sm mid) refl

  -- the rest of a production
  module _ (sa s0 : Scope) (q0 : ℕ) (ps0 : List Tree) (from mid0 : ℕ) (unnamed : name_of q0 ≡ None) where
    abbrev Built : Type 0
    Built = (r : Option Found) × Builds cs h sa s0 q0 ps0 from mid0 r

    abbrev Here : Scope → ℕ → List Tree → ℕ → ℕ → Type 0
    Here sm q ps mid height = Reading cs h sa s0 q0 ps0 from mid0 sm q ps mid height

    abbrev Within : ℕ → Type 0
    Within n = (sm : Scope) (q : ℕ) (ps : List Tree) (mid height : ℕ) → length cs ≤ n + mid → Here sm q ps mid height → Built

    over_here : (sm : Scope) (q : ℕ) (ps : List Tree) (mid height : ℕ) → Here sm q ps mid height → ((k : Class) → class_at cs sm mid ≡ Some k → Enters q k → (k ≡ cl.Else) × Has (bars q) k) → Built
    over_here sm q ps mid height r over =
        let a = ending sa from sm q ps mid height r.half (λ l is. reading_some cs h sa s0 q0 ps0 from mid0 sm q ps mid height r unnamed l is) over in
        (a.0, reading_builds cs h sa s0 q0 ps0 from mid0 sm q ps mid height r unnamed a.0 a.1)

    module _ (n : ℕ) (more : Within n) (sm : Scope) (q : ℕ) (ps : List Tree) (mid height : ℕ) (fuel : length cs ≤ suc n + mid) (r : Here sm q ps mid height) (k : Class) (token : class_at cs sm mid ≡ Some k) where
      next_part : (e : Edge) → Has (edges q) e → Begins e.before e.symbol k → (Has (bars q) k → Lost (At cs h) cs k sm mid → ⊥) → (o : Option Found) → Part cs h sm e.before e.symbol mid o → Built
      next_part e has begins free None p = (None, reading_stuck cs h sa s0 q0 ps0 from mid0 sm q ps mid height r e k has token begins free p)
      next_part e has begins free (Some f) p =
          let grows : mid < end f.tree = p.found.grows in
          more f.scope (turn e.next f.place) (ps ++ f.tree ∷ []) (end f.tree) (max height f.height) (omega arith)
          (reading_on cs h sa s0 q0 ps0 from mid0 sm q ps mid height r e k has token begins free f p (turn e.next f.place) refl (max height f.height) refl)

      entering : (Has (bars q) k → Lost (At cs h) cs k sm mid → ⊥) → Settled (Enters q k) → Built
      entering free (inl e) = (let a = part sm e.0.before e.0.symbol mid in next_part e.0 e.1 e.2 free a.0 a.1)
      entering free (inr not) = over_here sm q ps mid height r (λ k' token' n. absurd (not (subst (Enters q) (some_is (sym token' ∙ token)) n)))

      dangling : (is : k ≡ cl.Else) → Settled (Has (bars q) k) → Built
      dangling is (inl bar) = over_here sm q ps mid height r (λ k' token' n. (let same : k' ≡ k = some_is (sym token' ∙ token) in (same ∙ is, subst (Has (bars q)) (sym same) bar)))
      dangling is (inr not) = entering (λ bar lost. not bar) (enters q k)

      at_token : Settled (k ≡ cl.Else) → Built
      at_token (inl is) = dangling is (has_class (bars q) k)
      at_token (inr not) = entering (λ bar lost. not lost.0) (enters q k)

    there : (n : ℕ) → Within n → (sm : Scope) (q : ℕ) (ps : List Tree) (mid height : ℕ) → length cs ≤ suc n + mid → Here sm q ps mid height → (o : Option Class) → class_at cs sm mid ≡ o → Built
    there n more sm q ps mid height fuel r None past = over_here sm q ps mid height r (λ k token e. absurd (none_not (sym past ∙ token)))
    there n more sm q ps mid height fuel r (Some k) token = at_token n more sm q ps mid height fuel r k token (same_class k cl.Else)

    past_all : (sm : Scope) (q : ℕ) (ps : List Tree) (mid height : ℕ) → length cs ≤ mid → Here sm q ps mid height → Built
    past_all sm q ps mid height fuel r = over_here sm q ps mid height r (λ k token e. (let l = class_within cs sm mid k token in absurd (omega arith)))

    builds : (n : ℕ) → Within n
    builds zero sm q ps mid height fuel r = past_all sm q ps mid height (omega arith) r
    builds (suc n) sm q ps mid height fuel r = there n (builds n) sm q ps mid height fuel r (class_at cs sm mid) refl

    pub built : (height : ℕ) → Half cs h sa s0 q0 ps0 from mid0 height → Built
    built height half = builds (length cs) s0 q0 ps0 mid0 height (omega arith) (reading_start cs h sa s0 q0 ps0 from mid0 height half)

  -- the node that begins a tree
  module _ (s : Scope) (g : Nonterminal) (at : ℕ) where
    opening : (k : Class) → class_at cs s at ≡ Some k → Settled ((q : ℕ) × Has (openers g) q × Enters q k) → (r : Option Found) × Opens cs h s g at r
    opening k token (inl o) =
        let l = class_within cs s at k token in
        let a = built s s o.0 [] at at (start_unnamed cs h s g at o.0 o.1) 0 (half_start cs h s g at o.0 o.1 (omega arith)) in
        (a.0, opens_by cs h s g at k o.0 token o.1 o.2 a.0 a.1)
    opening k token (inr not) = (None, opens_none cs h s g at k token (λ q has e. not (q, has, e)))

    there_opens : (o : Option Class) → class_at cs s at ≡ o → (r : Option Found) × Opens cs h s g at r
    there_opens None past = (None, opens_past cs h s g at past)
    there_opens (Some k) token = opening k token (among (λ (q : ℕ). Enters q k) (λ q. enters q k) (openers g))

    opens : (r : Option Found) × Opens cs h s g at r
    opens = there_opens (class_at cs s at) refl

  -- a node that goes on from one
  module _ (sa : Scope) (q : ℕ) (left : Found) (sound : Sound cs (suc h) sa left) (on : GoesOn cs left.scope q left.place (end left.tree)) (is_home : home q ≡ q) where
    low_step : left.height ≤ h → (r : Option Found) × Steps cs h sa q left r
    low_step low =
        let a = built sa left.scope on.cornered.next (left.tree ∷ []) (start left.tree) (end left.tree) (step_unnamed cs h sa q left sound on.cornered on.is is_home on.takes) left.height
        (half_step cs h sa q left sound on.cornered on.is is_home on.takes low) in
        (a.0, steps_by cs h sa q left sound on.cornered on.is is_home on.takes a.0 a.1)

    step : (r : Option Found) × Steps cs h sa q left r
    step = ⊎_elim (λ (l : h < left.height). (None, steps_high cs h sa q left sound l)) (λ (l : left.height ≤ h). low_step l) (cases_lt h left.height)

  module _ (sa : Scope) (g : Nonterminal) (first : Found) where
    abbrev Climbed : Type 0
    Climbed = (r : Option Found) × Climbs cs h sa g first r

    abbrev Upwards : ℕ → Type 0
    Upwards n = (left : Found) → length cs ≤ n + end left.tree → Climbing cs h sa g first left → Climbed

    after_step : (n : ℕ) → Upwards n → (left : Found) → length cs ≤ suc n + end left.tree → (c : Climbing cs h sa g first left) → (q : ℕ) (has : Has (suffixes g) q) (on : GoesOn cs left.scope q left.place (end left.tree))
        → (o : Option Found) → Steps cs h sa q left o → Climbed
    after_step n more left fuel c q has on None st = (None, climbs_stuck cs h sa g first left c q has on st)
    after_step n more left fuel c q has on (Some new) st =
        let grows : end left.tree < end new.tree = st.found.2 in
        more new (omega arith) (climbs_on cs h sa g first left c q has on new st)

    going : (n : ℕ) → Upwards n → (left : Found) → length cs ≤ suc n + end left.tree → Climbing cs h sa g first left → Settled ((q : ℕ) × Has (suffixes g) q × GoesOn cs left.scope q left.place (end left.tree)) → Climbed
    going n more left fuel c (inl q) = (let a = step sa q.0 left c.sound q.2 (suffix g q.0 q.1).0 in after_step n more left fuel c q.0 q.1 q.2 a.0 a.1)
    going n more left fuel c (inr not) = (Some left, climbs_end cs h sa g first left c (λ q has on. not (q, has, on)))

    climbs : (n : ℕ) → Upwards n
    climbs zero left fuel c = (Some left, climbs_end cs h sa g first left c (λ q has on. (let l = class_within cs left.scope (end left.tree) on.class on.token in omega arith)))
    climbs (suc n) left fuel c = going n (climbs n) left fuel c (among (λ (q : ℕ). GoesOn cs left.scope q left.place (end left.tree)) (λ q. goes_on cs left.scope q left.place (end left.tree)) (suffixes g))

    climbed : Sound cs (suc h) sa first → Climbed
    climbed sound = climbs (length cs) first (omega arith) (climbs_start cs h sa g first sound)

  -- the whole answer
  module _ (s : Scope) (g : Nonterminal) (at : ℕ) (begun : Opened cs g s at) where
    fitting : (first : Found) (o : Opens cs h s g at (Some first)) (f : Found) → Climbs cs h s g first (Some f) → Settled (Has (kinds g) f.place) → Answer cs (suc h) s g at
    fitting first o f c (inl kind) = (Some f, parses_some cs h s g at first o f c kind begun)
    fitting first o f c (inr not) = (None, parses_other cs h s g at first o f c not)

    highest : (first : Found) (o : Opens cs h s g at (Some first)) (r : Option Found) → Climbs cs h s g first r → Answer cs (suc h) s g at
    highest first o None c = (None, parses_none cs h s g at first o c)
    highest first o (Some f) c = fitting first o f c (has_place (kinds g) f.place)

    answered : (r : Option Found) → Opens cs h s g at r → Answer cs (suc h) s g at
    answered None o = (None, nothing_opens cs h s g at o)
    answered (Some first) o = (let a = climbed s g first o.found.0 in highest first o a.0 a.1)

  above : (s : Scope) (g : Nonterminal) (at : ℕ) → Settled (Opened cs g s at) → Answer cs (suc h) s g at
  above s g at (inl begun) = (let a = opens s g at in answered s g at begun a.0 a.1)
  above s g at (inr not) = (None, parses_shunned cs (suc h) s g at not)

pub answer : (cs : List Lexeme) (h : ℕ) (s : Scope) (g : Nonterminal) (at : ℕ) → Answer cs h s g at
answer cs zero s g at = (None, nothing_flat cs s g at)
answer cs (suc h) s g at = above cs h (λ s' g' at'. answer cs h s' g' at') s g at (opened cs g s at)

-- a tree on all of the tokens
module _ (g : Nonterminal) (cs : List Lexeme) (s : Scope) (at : ℕ) where
  abbrev Spanned : Type 0
  Spanned = (t : Tree) × (w : Scope) × SpansFrom g cs s at t w

  abbrev Nothing : Type 0
  Nothing = (t : Tree) (w : Scope) → SpansFrom g cs s at t w → ⊥

  reaching : (f : Found) → Parses cs 512 s g at (Some f) → Settled (end f.tree ≡ length cs) → Spanned ⊎ Nothing
  reaching f p (inl all) = inl (f.tree, f.scope, to_derives g cs s at f.tree f.scope (whole_found cs s g at f p all))
  reaching f p (inr not) = inr (λ t w d. (
      let same : f.tree ≡ t = (whole_only cs s g at (Some f) t w p (of_derives g cs s at t w d)).1.0 in
      not (ap end same ∙ d.to)))

  spanning : (r : Option Found) → Parses cs 512 s g at r → Spanned ⊎ Nothing
  spanning None p = inr (λ t w d. (whole_only cs s g at None t w p (of_derives g cs s at t w d)).1)
  spanning (Some f) p = reaching f p (same_number (end f.tree) (length cs))

  pub tree_or_none : ((t : Tree) × (w : Scope) × SpansFrom g cs s at t w) ⊎ ((t : Tree) (w : Scope) → SpansFrom g cs s at t w → ⊥)
  tree_or_none = (let a = answer cs 512 s g at in spanning a.0 a.1)

module _ (cs : List Lexeme) (s : Scope) (at : ℕ) where
  abbrev Outer : Type 0
  Outer = ((t : Tree) × (w : Scope) × External cs s at t w) ⊎ ((t : Tree) (w : Scope) → External cs s at t w → ⊥)

  abbrev Tried : Nonterminal → Type 0
  Tried g = ((t : Tree) × (w : Scope) × SpansFrom g cs s at t w) ⊎ ((t : Tree) (w : Scope) → SpansFrom g cs s at t w → ⊥)

  neither : ((t : Tree) (w : Scope) → SpansFrom nt.FunctionDefinition cs s at t w → ⊥) → ((t : Tree) (w : Scope) → SpansFrom nt.Declaration cs s at t w → ⊥) → (t : Tree) (w : Scope) → External cs s at t w → ⊥
  neither f d t w (inl a) = f t w a
  neither f d t w (inr a) = d t w a

  of_both : Tried nt.FunctionDefinition → Tried nt.Declaration → Outer
  of_both (inl f) d = inl (f.0, f.1, inl f.2)
  of_both (inr f) (inl d) = inl (d.0, d.1, inr d.2)
  of_both (inr f) (inr d) = inr (neither f d)

  pub external_or_none : ((t : Tree) × (w : Scope) × External cs s at t w) ⊎ ((t : Tree) (w : Scope) → External cs s at t w → ⊥)
  external_or_none = of_both (tree_or_none nt.FunctionDefinition cs s at) (tree_or_none nt.Declaration cs s at)
