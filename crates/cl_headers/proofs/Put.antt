-- What a change of a header map says of each path, and that it leaves a header map.
use Rattle.std.proofs.Common.{◌≡◌, ◌≢◌, ℕ, List, [], ◌∷◌, Bool, true, false, refl, sym, ap, ◌∙◌, subst, cond}
use Rattle.std.proofs.lemmas.Bool.{true≢false}
use Rattle.std.proofs.lemmas.Map.{lookup-remove_entry}
use Rattle.std.proofs.lemmas.Map.Text.{is_eq-slice_cmp}
use Rattle.std.proofs.lemmas.Map.Keys.{IsDistinct-from_sorted}
use Rattle.std.proofs.lemmas.Cmp.{nat_list_cmp_total}
use Rattle.std.specs.Prelude.{Option, None, Some}
use Rattle.std.specs.List.{AllByRecursion}
use Rattle.std.specs.List.Sorted.{IsStrictlySortedBy}
use Rattle.std.specs.Map.{keys_of, remove_entry}
use Rattle.std.specs.Cmp.{eq_by_cmp_equiv}
use Rattle.std.specs.Ordering.{is_eq, match_ordering}
use Rattle.std.specs.declared.cmp.Ordering.{Ordering}
use Rattle.std.specs.declared.cmp.Ordering.TheVariants.{Less, Equal, Greater}
use Rattle.std.specs.BTreeMap.{is_at, insert_entry}
use Rattle.std.specs.Str.{bytes_eq}
use Rattle.cl_base.specs.declared.headers.Known.{Known}
use Rattle.cl_base.specs.declared.headers.Known.TheVariants.{Unknown}
use Rattle.cl_headers.specs.Headers.{Headers, Puts, known_at}
use Rattle.cl_headers.specs.Maps.{InOrder, IsHeaderMap}
use Rattle.cl_headers.proofs.Row.{Entry, order, Stands, stands_before, turned}

-- ---- what each path has

over : {X : Type 0} (b : Bool) (x y z : X) → cond b x z ≡ cond b x (cond b y z)
over true x y z = refl
over false x y z = refl

swapped : {X : Type 0} (a b : Bool) (x y z : X) → (b ≡ true → a ≡ false) → cond a x (cond b y z) ≡ cond b y (cond a x z)
swapped true true x y z apart = absurd (true≢false (apart refl))
swapped true false x y z apart = refl
swapped false b x y z apart = refl

alike : (path q : List ℕ) → is_at (order q) path ≡ is_at (order path) q
alike path q = (eq_by_cmp_equiv nat_list_cmp_total).symm q path

moved : (path p q : List ℕ) → order path p ≡ Equal → is_at (order p) q ≡ is_at (order path) q
moved path p q same = sym ((eq_by_cmp_equiv nat_list_cmp_total).congr path p q (ap is_eq same))

apart : (path p q : List ℕ) → order path p ≡ Greater → is_at (order path) q ≡ true → is_at (order q) p ≡ false
apart path p q more at = sym ((eq_by_cmp_equiv nat_list_cmp_total).congr path q p at) ∙ ap is_eq more

put_by : (o : Ordering) (path q : List ℕ) (known : Known) (e : Entry) (es put : Headers) → order path e.0 ≡ o
    → known_at put q ≡ cond (is_at (order path) q) (Some known) (known_at es q)
    → known_at (match_ordering o ((path, known) ∷ e ∷ es) ((e.0, known) ∷ es) (e ∷ put)) q ≡ cond (is_at (order path) q) (Some known) (known_at (e ∷ es) q)
put_by Less path q known e es put is later = ap (λ (b : Bool). cond b (Some known) (known_at (e ∷ es) q)) (alike path q)
put_by Equal path q known e es put is later =
    over (is_at (order q) e.0) (Some known) (Some e.1) (known_at es q)
    ∙ ap (λ (b : Bool). cond b (Some known) (known_at (e ∷ es) q)) (alike e.0 q ∙ moved path e.0 q is)
put_by Greater path q known e es put is later =
    ap (λ (rest : Option Known). cond (is_at (order q) e.0) (Some e.1) rest) later
    ∙ swapped (is_at (order q) e.0) (is_at (order path) q) (Some e.1) (Some known) (known_at es q) (apart path e.0 q is)

put_at : (path q : List ℕ) (known : Known) (es : Headers) → known_at (insert_entry order es path known) q ≡ cond (is_at (order path) q) (Some known) (known_at es q)
put_at path q known [] = ap (λ (b : Bool). cond b (Some known) None) (alike path q)
put_at path q known (e ∷ es) = put_by (order path e.0) path q known e es (insert_entry order es path known) refl (put_at path q known es)

gone_at : (path q : List ℕ) (es : Headers) → InOrder es → known_at (remove_entry (is_at (order path)) es) q ≡ cond (is_at (order path) q) None (known_at es q)
gone_at path q es s =
    lookup-remove_entry (eq_by_cmp_equiv nat_list_cmp_total) (is_at (order path)) (λ x y at. (eq_by_cmp_equiv nat_list_cmp_total).congr path x y at) q es
    (IsDistinct-from_sorted order (keys_of es) s)

at_bytes : {X : Type 0} (path q : List ℕ) (a now b : X) → now ≡ cond (is_at (order path) q) a b → now ≡ cond (bytes_eq path q) a b
at_bytes path q a now b e = e ∙ ap (λ (t : Bool). cond t a b) (is_eq-slice_cmp path q)

pub puts : (path : List ℕ) (known : Known) (old new : Headers) → new ≡ insert_entry order old path known → Puts old new path (Some known)
puts path known old new is = λ q. ap (λ (es : Headers). known_at es q) is ∙ at_bytes path q (Some known) _ (known_at old q) (put_at path q known old)

pub gone : (path : List ℕ) (old new : Headers) → InOrder old → new ≡ remove_entry (is_at (order path)) old → Puts old new path None
gone path old new s is = λ q. ap (λ (es : Headers). known_at es q) is ∙ at_bytes path q None _ (known_at old q) (gone_at path q old s)

-- ---- the order stays

abbrev All : (List ℕ → Type 0) → Headers → Type 0
All P es = AllByRecursion P (keys_of es)

all_put_by : (P : List ℕ → Type 0) (o : Ordering) (path : List ℕ) (known : Known) (e : Entry) (es put : Headers) → P path → All P (e ∷ es) → All P put
    → All P (match_ordering o ((path, known) ∷ e ∷ es) ((e.0, known) ∷ es) (e ∷ put))
all_put_by P Less path known e es put new old rest = (new, old)
all_put_by P Equal path known e es put new old rest = old
all_put_by P Greater path known e es put new old rest = (old.0, rest)

all_put : (P : List ℕ → Type 0) (path : List ℕ) (known : Known) (es : Headers) → P path → All P es → All P (insert_entry order es path known)
all_put P path known [] new old = (new, tt)
all_put P path known (e ∷ es) new old = all_put_by P (order path e.0) path known e es (insert_entry order es path known) new old (all_put P path known es new old.1)

order_put_by : (o : Ordering) (path : List ℕ) (known : Known) (e : Entry) (es put : Headers) → order path e.0 ≡ o → InOrder (e ∷ es) → InOrder put
    → (Stands Less e.0 es → order e.0 path ≡ Less → Stands Less e.0 put) → InOrder (match_ordering o ((path, known) ∷ e ∷ es) ((e.0, known) ∷ es) (e ∷ put))
unfolding IsStrictlySortedBy
order_put_by Less path known e es put is s t all = (stands_before path e es s is, s)
order_put_by Equal path known e es put is s t all = s
order_put_by Greater path known e es put is s t all = (all s.0 (turned path e.0 Greater is), t)

order_put : (path : List ℕ) (known : Known) (es : Headers) → InOrder es → InOrder (insert_entry order es path known)
unfolding IsStrictlySortedBy
order_put path known [] s = (tt, tt)
order_put path known (e ∷ es) s =
    order_put_by (order path e.0) path known e es (insert_entry order es path known) refl s (order_put path known es s.1)
    (λ later less. all_put (λ q. order e.0 q ≡ Less) path known es less later)

all_gone_by : (P : List ℕ → Type 0) (b : Bool) (e : Entry) (es more : Headers) → All P (e ∷ es) → All P more → All P (cond b es (e ∷ more))
all_gone_by P true e es more old rest = old.1
all_gone_by P false e es more old rest = (old.0, rest)

all_gone : (P : List ℕ → Type 0) (path : List ℕ) (es : Headers) → All P es → All P (remove_entry (is_at (order path)) es)
all_gone P path [] old = tt
all_gone P path (e ∷ es) old = all_gone_by P (is_at (order path) e.0) e es (remove_entry (is_at (order path)) es) old (all_gone P path es old.1)

order_gone_by : (b : Bool) (e : Entry) (es more : Headers) → InOrder (e ∷ es) → InOrder more → (Stands Less e.0 es → Stands Less e.0 more) → InOrder (cond b es (e ∷ more))
unfolding IsStrictlySortedBy
order_gone_by true e es more s t all = s.1
order_gone_by false e es more s t all = (all s.0, t)

order_gone : (path : List ℕ) (es : Headers) → InOrder es → InOrder (remove_entry (is_at (order path)) es)
unfolding IsStrictlySortedBy
order_gone path [] s = tt
order_gone path (e ∷ es) s =
    order_gone_by (is_at (order path) e.0) e es (remove_entry (is_at (order path)) es) s (order_gone path es s.1)
    (λ later. all_gone (λ q. order e.0 q ≡ Less) path es later)

-- ---- nothing is put down as unknown

abbrev Told : Headers → Type 0
Told headers = AllByRecursion (λ (entry : List ℕ × Known). entry.1 ≢ Unknown) headers

told_put_by : (o : Ordering) (path : List ℕ) (known : Known) (e : Entry) (entries more : Headers) → known ≢ Unknown → Told (e ∷ entries) → Told more
    → Told (match_ordering o ((path, known) ∷ e ∷ entries) ((e.0, known) ∷ entries) (e ∷ more))
told_put_by Less path known e entries more new old rest = (new, old)
told_put_by Equal path known e entries more new old rest = (new, old.1)
told_put_by Greater path known e entries more new old rest = (old.0, rest)

told_put : (path : List ℕ) (known : Known) (entries : Headers) → known ≢ Unknown → Told entries → Told (insert_entry (order) entries path known)
told_put path known [] new old = (new, tt)
told_put path known (e ∷ entries) new old = told_put_by (order path e.0) path known e entries (insert_entry (order) entries path known) new old (told_put path known entries new old.1)

told_gone_by : (b : Bool) (e : Entry) (entries more : Headers) → Told (e ∷ entries) → Told more → Told (cond b entries (e ∷ more))
told_gone_by true e entries more old rest = old.1
told_gone_by false e entries more old rest = (old.0, rest)

told_gone : (path : List ℕ) (entries : Headers) → Told entries → Told (remove_entry (is_at (order path)) entries)
told_gone path [] old = tt
told_gone path (e ∷ entries) old = told_gone_by (is_at (order path) e.0) e entries (remove_entry (is_at (order path)) entries) old (told_gone path entries old.1)

-- ---- a map stays one

pub empty_map : (new : Headers) → new ≡ [] → IsHeaderMap new
unfolding IsStrictlySortedBy
empty_map new is = subst IsHeaderMap (sym is) (record { ordered = tt; told = tt })

pub still_put : (path : List ℕ) (known : Known) (old new : Headers) → known ≢ Unknown → IsHeaderMap old → new ≡ insert_entry order old path known → IsHeaderMap new
still_put path known old new it map put = subst IsHeaderMap (sym put) (record { ordered = order_put path known old map.ordered; told = told_put path known old it map.told })

pub still_gone : (path : List ℕ) (old new : Headers) → IsHeaderMap old → new ≡ remove_entry (is_at (order path)) old → IsHeaderMap new
still_gone path old new map gone = subst IsHeaderMap (sym gone) (record { ordered = order_gone path old map.ordered; told = told_gone path old map.told })
