-- What the trail shows is the last declaration of the innermost scope.
use Rattle.std.proofs.Common.{◌≡◌, ℕ, zero, suc, ◌-◌, ◌<◌, ◌≤◌, nat_lt, ◌&&◌, if◌then◌else◌, Bool, true, false, not, List, [], ◌∷◌, refl, sym, ap, ◌∙◌, arith, rules}
use Rattle.std.specs.Prelude.{Option, Some, None}
use Rattle.std.proofs.lemmas.Option.{same_Some}
use Rattle.cl_types.specs.declared.types.DeclNo.{DeclNo}
use Rattle.cl_scope.specs.declared.history.Local.{Local}
use Rattle.cl_scope.specs.declared.history.Entry.{Entry}
use Rattle.cl_scope.specs.declared.history.Entry.TheVariants.{Begin, Named}
use Rattle.cl_scope.specs.Trail.{seen, seen_here, ended, named, binds, is_last}
use Rattle.cl_scope.specs.Held.{Event, Held, further, nearer, nearer_by, depth, held, inner, inner_of, innermost, number_of, trail_after}
use Rattle.cl_scope.specs.Held.Event.{Begins, Ends, Declares}
use Rattle.cl_scope.proofs.Scoping.{binds_alike}

-- ---- the same of a trail

abbrev first : DeclNo → Held
first n = record { within = zero; no = n }

abbrev kept : List Entry → Local → List ℕ → List Held
kept [] space name = []
kept (Begin ∷ past) space name = further (kept past space name)
kept (Named s m n ∷ past) space name = if binds s m space name then first n ∷ kept past space name else kept past space name

-- in each scope the numbers of a name rise
abbrev Rises : List Entry → Type 0
Rises [] = zero ≡ zero
Rises (Begin ∷ past) = Rises past
Rises (Named s m n ∷ past) = (is_last (seen_here past s m) n ≡ true) × Rises past

abbrev outer : Option Held → Option Held
outer None = None
outer (Some h) = Some (record { within = suc h.within; no = h.no })

abbrev here_by : ℕ → DeclNo → Option DeclNo
here_by zero n = Some n
here_by (suc w) n = None

abbrev here_in : Option Held → Option DeclNo
here_in None = None
here_in (Some h) = here_by h.within h.no

abbrev choose : Bool → Bool → Bool → Held → Held → Held
choose a b c h k = if a then h else if b then k else if c then k else h

abbrev up : Held → Held
up h = record { within = suc h.within; no = h.no }

choose_up : (a b c : Bool) (h k : Held) → choose a b c (up h) (up k) ≡ up (choose a b c h k)
choose_up true b c h k = refl
choose_up false true c h k = refl
choose_up false false true h k = refl
choose_up false false false h k = refl

less_up : (a b : ℕ) (c : Bool) → nat_lt a b ≡ c → nat_lt (suc a) (suc b) ≡ c
less_up a b true e = let f : nat_lt (suc a) (suc b) ≡ true = grind (arith, e) in f
less_up a b false e = let f : nat_lt (suc a) (suc b) ≡ false = grind (arith, e) in f

inner_further : (h k : Held) → inner (up h) (up k) ≡ up (inner h k)
inner_further h k =
    ap (λ (d : Bool). choose d (nat_lt (suc k.within) (suc h.within)) (nat_lt h.no.0 k.no.0) (up h) (up k)) (less_up h.within k.within (nat_lt h.within k.within) refl)
    ∙ ap (λ (d : Bool). choose (nat_lt h.within k.within) d (nat_lt h.no.0 k.no.0) (up h) (up k)) (less_up k.within h.within (nat_lt k.within h.within) refl)
    ∙ choose_up (nat_lt h.within k.within) (nat_lt k.within h.within) (nat_lt h.no.0 k.no.0) h k

inner_of_further : (h : Held) (o : Option Held) → inner_of (record { within = suc h.within; no = h.no }) (outer o) ≡ outer (inner_of h o)
inner_of_further h None = refl
inner_of_further h (Some k) = ap Some (inner_further h k)

innermost_further : (hs : List Held) → innermost (further hs) ≡ outer (innermost hs)
innermost_further [] = refl
innermost_further (h ∷ hs) = ap (inner_of (record { within = suc h.within; no = h.no })) (innermost_further hs) ∙ inner_of_further h (innermost hs)

here_outer : (o : Option Held) → here_in (outer o) ≡ None
here_outer None = refl
here_outer (Some h) = refl

number_outer : (o : Option Held) → number_of (outer o) ≡ number_of o
number_outer None = refl
number_outer (Some h) = refl

not_true : (b : Bool) → not b ≡ true → b ≡ false
not_true false t = refl
not_true true t = search (rules, t)

not_false : (b : Bool) → not b ≡ false → b ≡ true
not_false true t = refl
not_false false t = search (rules, t)

-- in one scope the last one
in_scope : (n m : DeclNo) (b : Bool) → nat_lt n.0 m.0 ≡ b → inner (first n) (first m) ≡ choose false false b (first n) (first m)
in_scope n m b e =
    let none : nat_lt zero zero ≡ false = grind arith in
    ap (λ (d : Bool). choose d (nat_lt zero zero) (nat_lt n.0 m.0) (first n) (first m)) none
    ∙ ap (λ (d : Bool). choose false d (nat_lt n.0 m.0) (first n) (first m)) none
    ∙ ap (λ (d : Bool). choose false false d (first n) (first m)) e

-- a name that is bound last in its scope is the last of the innermost
last_by : (n : DeclNo) (w : ℕ) (m : DeclNo) → is_last (here_by w m) n ≡ true → inner (first n) (record { within = w; no = m }) ≡ first n
last_by n zero m l = in_scope n m false (not_true (nat_lt n.0 m.0) l)
last_by n (suc w) m l = let less : nat_lt zero (suc w) ≡ true = grind arith in
    ap (λ (d : Bool). choose d (nat_lt (suc w) zero) (nat_lt n.0 m.0) (first n) (record { within = suc w; no = m })) less

bound_last : (n : DeclNo) (o : Option Held) → is_last (here_in o) n ≡ true → inner_of (first n) o ≡ Some (first n)
bound_last n None e = refl
bound_last n (Some h) e = ap Some (last_by n h.within h.no e)

-- one that isn't hides nothing
before_by : (n : DeclNo) (w : ℕ) (m : DeclNo) → is_last (here_by w m) n ≡ false → inner (first n) (record { within = w; no = m }) ≡ record { within = w; no = m }
before_by n zero m l = in_scope n m true (not_false (nat_lt n.0 m.0) l)
before_by n (suc w) m l = search (rules, l)

bound_before : (n : DeclNo) (o : Option Held) → is_last (here_in o) n ≡ false → inner_of (first n) o ≡ o
bound_before n None e = search (rules, e)
bound_before n (Some h) e = ap Some (before_by n h.within h.no e)

record Shows (t : List Entry) (space : Local) (name : List ℕ) : Type 0 where
  here : seen_here t space name ≡ here_in (innermost (kept t space name))
  all : seen t space name ≡ number_of (innermost (kept t space name))

shows_named : (past : List Entry) (s : Local) (m : List ℕ) (n : DeclNo) (space : Local) (name : List ℕ) (b : Bool) → binds s m space name ≡ b
    → is_last (seen_here past s m) n ≡ true → Shows past space name → Shows (Named s m n ∷ past) space name
shows_named past s m n space name true e l ih =
    let last : is_last (seen_here past space name) n ≡ true = sym (ap (λ (o : Option DeclNo). is_last o n) (binds_alike past s space m name e)) ∙ l in
    let top : inner_of (first n) (innermost (kept past space name)) ≡ Some (first n) = bound_last n (innermost (kept past space name)) (sym (ap (λ (o : Option DeclNo). is_last o n) ih.here) ∙ last) in
    record { here = rw e (sym (ap here_in top)); all = rw e (sym (ap number_of top)) }
shows_named past s m n space name false e l ih = record { here = rw e ih.here; all = rw e ih.all }

shows : (t : List Entry) (space : Local) (name : List ℕ) → Rises t → Shows t space name
shows [] space name r = record { here = refl; all = refl }
shows (Begin ∷ past) space name r =
    let ih = shows past space name r in
    record {
      here = sym (ap here_in (innermost_further (kept past space name)) ∙ here_outer (innermost (kept past space name)));
      all = ih.all ∙ sym (ap number_of (innermost_further (kept past space name)) ∙ number_outer (innermost (kept past space name)));
    }
shows (Named s m n ∷ past) space name r = shows_named past s m n space name (binds s m space name) refl r.0 (shows past space name r.1)

-- ---- trails rise

ended_rises : (t : List Entry) → Rises t → Rises (ended t)
ended_rises [] r = r
ended_rises (Begin ∷ past) r = r
ended_rises (Named s m n ∷ past) r = ended_rises past r.1

named_rises : (t : List Entry) (s : Local) (m : List ℕ) (n : DeclNo) → Rises t → Rises (named t (Some s) m n)
named_rises [] s m n r = r
named_rises (e ∷ past) s m n r = by (is_last (seen_here (e ∷ past) s m) n) refl
  where
    by : (b : Bool) → is_last (seen_here (e ∷ past) s m) n ≡ b → Rises (if b then Named s m n ∷ e ∷ past else e ∷ past)
    by true h = (h, r)
    by false h = r

rises : (es : List Event) → Rises (trail_after es)
rises [] = refl
rises (Begins ∷ past) = rises past
rises (Ends ∷ past) = ended_rises (trail_after past) (rises past)
rises (Declares s m n ∷ past) = named_rises (trail_after past) s m n (rises past)

-- ---- what the events hold and what the trail keeps have the same last one of the innermost scope, however many scopes end

abbrev after : ℕ → List Held → List Held
after zero hs = hs
after (suc k) hs = after k (nearer hs)

nearer_further : (hs : List Held) → nearer (further hs) ≡ hs
nearer_further [] = refl
nearer_further (h ∷ hs) = ap (λ (ks : List Held). h ∷ ks) (nearer_further hs)

nearer_named : (b : Bool) (n : DeclNo) (hs : List Held) → nearer hs ≡ nearer (if b then first n ∷ hs else hs)
nearer_named true n hs = refl
nearer_named false n hs = refl

kept_ended : (t : List Entry) (space : Local) (name : List ℕ) → kept (ended t) space name ≡ nearer (kept t space name)
kept_ended [] space name = refl
kept_ended (Begin ∷ past) space name = sym (nearer_further (kept past space name))
kept_ended (Named s m n ∷ past) space name = kept_ended past space name ∙ nearer_named (binds s m space name) n (kept past space name)

-- how many scopes a trail has
abbrev scopes : List Entry → ℕ
scopes [] = zero
scopes (Begin ∷ past) = suc (scopes past)
scopes (Named s m n ∷ past) = scopes past

-- a trail begins with a scope
abbrev Begun : List Entry → Type 0
Begun [] = zero ≡ zero
Begun (Begin ∷ past) = Begun past
Begun (Named s m n ∷ past) = (zero < scopes past) × Begun past

abbrev Alike : List Held → List Held → Type 0
Alike hs ks = (k : ℕ) → innermost (after k hs) ≡ innermost (after k ks)

scopes_within : (e : Entry) (past : List Entry) → Begun (e ∷ past) → zero < scopes (e ∷ past)
scopes_within Begin past b = omega arith
scopes_within (Named s m n) past b = b.0

scopes_ended : (t : List Entry) → scopes (ended t) ≡ scopes t - 1
scopes_ended [] = refl
scopes_ended (Begin ∷ past) = let e : scopes past ≡ suc (scopes past) - 1 = omega arith in e
scopes_ended (Named s m n ∷ past) = scopes_ended past

scopes_named : (t : List Entry) (s : Local) (m : List ℕ) (n : DeclNo) → scopes (named t (Some s) m n) ≡ scopes t
scopes_named [] s m n = refl
scopes_named (e ∷ past) s m n = by (is_last (seen_here (e ∷ past) s m) n)
  where
    by : (b : Bool) → scopes (if b then Named s m n ∷ e ∷ past else e ∷ past) ≡ scopes (e ∷ past)
    by true = refl
    by false = refl

scopes_are : (es : List Event) → scopes (trail_after es) ≡ depth es
scopes_are [] = refl
scopes_are (Begins ∷ past) = ap suc (scopes_are past)
scopes_are (Ends ∷ past) = scopes_ended (trail_after past) ∙ ap (λ (k : ℕ). k - 1) (scopes_are past)
scopes_are (Declares s m n ∷ past) = scopes_named (trail_after past) s m n ∙ scopes_are past

ended_begun : (t : List Entry) → Begun t → Begun (ended t)
ended_begun [] b = b
ended_begun (Begin ∷ past) b = b
ended_begun (Named s m n ∷ past) b = ended_begun past b.1

named_begun : (t : List Entry) (s : Local) (m : List ℕ) (n : DeclNo) → Begun t → Begun (named t (Some s) m n)
named_begun [] s m n b = b
named_begun (e ∷ past) s m n b = by (is_last (seen_here (e ∷ past) s m) n)
  where
    by : (c : Bool) → Begun (if c then Named s m n ∷ e ∷ past else e ∷ past)
    by true = (scopes_within e past b, b)
    by false = b

begun : (es : List Event) → Begun (trail_after es)
begun [] = refl
begun (Begins ∷ past) = begun past
begun (Ends ∷ past) = ended_begun (trail_after past) (begun past)
begun (Declares s m n ∷ past) = named_begun (trail_after past) s m n (begun past)

module _ (space : Local) (name : List ℕ) where
  one_more : (n : DeclNo) (hs ks : List Held) → Alike hs ks → Alike (first n ∷ hs) (first n ∷ ks)
  one_more n hs ks a zero = ap (inner_of (first n)) (a zero)
  one_more n hs ks a (suc k) = a (suc k)

  hidden : (n : DeclNo) (hs ks : List Held) → Alike hs ks → is_last (here_in (innermost ks)) n ≡ false → Alike (first n ∷ hs) ks
  hidden n hs ks a e zero = ap (inner_of (first n)) (a zero) ∙ bound_before n (innermost ks) e
  hidden n hs ks a e (suc k) = a (suc k)

  declared : (t : List Entry) (hs : List Held) (d : ℕ) (s : Local) (m : List ℕ) (n : DeclNo) → Rises t → Begun t → scopes t ≡ d → Alike hs (kept t space name)
      → Alike (if binds s m space name && nat_lt zero d then first n ∷ hs else hs) (kept (named t (Some s) m n) space name)
  declared [] hs d s m n r b z a = by (binds s m space name) (nat_lt zero d) (let e : nat_lt zero d ≡ false = grind (arith, z) in e)
    where
      by : (b c : Bool) → c ≡ false → Alike (if b && c then first n ∷ hs else hs) []
      by true c e = rw e a
      by false c e = a
  declared (e ∷ past) hs d s m n r b z a =
      by (binds s m space name) (nat_lt zero d) (is_last (seen_here (e ∷ past) s m) n) refl
      (let w = scopes_within e past b in let f : nat_lt zero d ≡ true = grind (arith, z, w) in f) refl
    where
      by : (b c l : Bool) → binds s m space name ≡ b → c ≡ true → is_last (seen_here (e ∷ past) s m) n ≡ l
          → Alike (if b && c then first n ∷ hs else hs) (kept (if l then Named s m n ∷ e ∷ past else e ∷ past) space name)
      by true c true f g h = rw (g, f) (one_more n hs (kept (e ∷ past) space name) a)
      by true c false f g h = rw g (hidden n hs (kept (e ∷ past) space name) a
          (ap (λ (o : Option DeclNo). is_last o n) (sym (binds_alike (e ∷ past) s space m name f ∙ (shows (e ∷ past) space name r).here)) ∙ h))
      by false c true f g h = rw f a
      by false c false f g h = a

  alike : (es : List Event) → Alike (held es space name) (kept (trail_after es) space name)
  alike [] k = refl
  alike (Begins ∷ past) zero = innermost_further (held past space name) ∙ ap outer (alike past zero) ∙ sym (innermost_further (kept (trail_after past) space name))
  alike (Begins ∷ past) (suc k) =
      ap (λ (hs : List Held). innermost (after k hs)) (nearer_further (held past space name)) ∙ alike past k
      ∙ sym (ap (λ (hs : List Held). innermost (after k hs)) (nearer_further (kept (trail_after past) space name)))
  alike (Ends ∷ past) k = alike past (suc k) ∙ sym (ap (λ (hs : List Held). innermost (after k hs)) (kept_ended (trail_after past) space name))
  alike (Declares s m n ∷ past) k = declared (trail_after past) (held past space name) (depth past) s m n (rises past) (begun past) (scopes_are past) (alike past) k

pub seen_is : (es : List Event) (space : Local) (name : List ℕ) → seen (trail_after es) space name ≡ number_of (innermost (held es space name))
seen_is es space name = (shows (trail_after es) space name (rises es)).all ∙ sym (ap number_of (alike space name es zero))
