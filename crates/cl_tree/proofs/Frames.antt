-- The last item of a list, and what comes back with it.
use Rattle.std.proofs.Common.{◌≡◌, ℕ, suc, ◌-◌, arith, List, [], ◌∷◌, ◌++◌, refl, ap, sym, ◌∙◌, take, Bool, true, false, ◌&&◌, ◌||◌}
use Rattle.std.specs.Prelude.{Some, nat_lt, length, slice_get, Result, Ok, Err, IfOk}
use Rattle.cl_tree.specs.declared.scope.Frame.{Frame}
use Rattle.cl_tree.specs.declared.scope.Change.{Change}
use Rattle.cl_tree.specs.declared.scope.Scope.{Scope}
use Rattle.cl_tree.specs.declared.bracket.Brace.{Brace}
use Rattle.cl_tree.specs.declared.bracket.Opened.{Opened}
use Rattle.cl_tree.specs.declared.bracket.Side.{Side}
use Rattle.cl_tree.specs.Ends.{last, front}
use Rattle.cl_tree.specs.Scopes.{closed, closed_by, keeps, aside_by, shut, shut_by}
use Rattle.cl_tree.specs.Brackets.{Pairing, alone, paired, close_brace, close_other, opened_before, same_side}

pub last_is : {X : Type 0} (xs : List X) (x : X) → last (xs ++ x ∷ []) ≡ Some x
last_is [] x = refl
last_is (y ∷ []) x = refl
last_is (y ∷ z ∷ xs) x = last_is (z ∷ xs) x

pub front_is : {X : Type 0} (xs : List X) (x : X) → front (xs ++ x ∷ []) ≡ xs
front_is [] x = refl
front_is (y ∷ []) x = refl
front_is {X = X} (y ∷ z ∷ xs) x = ap (λ (v : List X). y ∷ v) (front_is (z ∷ xs) x)

pub last_get : {X : Type 0} (xs : List X) → slice_get xs (length xs - 1) ≡ last xs
last_get [] = refl
last_get (x ∷ []) = refl
last_get {X = X} (x ∷ y ∷ xs) =
    let e : length (x ∷ y ∷ xs) - 1 ≡ suc (length (y ∷ xs) - 1) = omega arith in
    ap (slice_get (x ∷ y ∷ xs)) e ∙ last_get (y ∷ xs)

-- what stands after the end of a list
pub closed_is : (s : Scope) (fs outer : List Frame) (f : Frame) (cs aside : List Change) (keep : Bool) → s.frames ≡ fs ++ f ∷ [] → outer ≡ fs → cs ≡ take f.kept s.changes → keep ≡ keeps s fs
    → aside ≡ aside_by keep s f.kept → record { typing = f.typing; pending = f.pending; changes = cs; frames = outer; listed = keep || s.listed; aside = aside } ≡ closed s
closed_is s fs outer f cs aside keep e o k is kept =
    let a : last s.frames ≡ Some f = ap last e ∙ last_is fs f in
    let b : front s.frames ≡ fs = ap front e ∙ front_is fs f in
    let all : aside ≡ aside_by (keeps s fs) s f.kept = kept ∙ ap (λ (v : Bool). aside_by v s f.kept) is in
    (λ i. record { typing = f.typing; pending = f.pending; changes = k i; frames = o i; listed = is i || s.listed; aside = all i })
    ∙ (λ i. record { typing = f.typing; pending = f.pending; changes = take f.kept s.changes; frames = sym b i; listed = keeps s (sym b i) || s.listed; aside = aside_by (keeps s (sym b i)) s f.kept })
    ∙ ap (closed_by s) (sym a)

pub shut_is : (s : Scope) (fs outer : List Frame) (f : Frame) → s.frames ≡ fs ++ f ∷ [] → outer ≡ fs → record { typing = f.typing; pending = f.pending; changes = s.changes; frames = outer; listed = s.listed; aside = s.aside } ≡ shut s
shut_is s fs outer f e o =
    let a : last s.frames ≡ Some f = ap last e ∙ last_is fs f in
    let b : outer ≡ front s.frames = o ∙ sym (ap front e ∙ front_is fs f) in
    (λ i. record { typing = f.typing; pending = f.pending; changes = s.changes; frames = b i; listed = s.listed; aside = s.aside }) ∙ ap (shut_by s) (sym a)

pub brace_is : (p : Pairing) (bs : List Brace) (b : Brace) (os : List Opened) (ps : List ℕ) → p.braces ≡ bs ++ b ∷ [] → os ≡ take b.before p.others → ps ≡ paired p.partners b.at
    → record { braces = bs; others = os; partners = ps } ≡ close_brace p (last p.braces)
brace_is p bs b os ps e o n =
    let l : last p.braces ≡ Some b = ap last e ∙ last_is bs b in
    let f : front p.braces ≡ bs = ap front e ∙ front_is bs b in
    (λ i. record { braces = sym f i; others = o i; partners = n i }) ∙ ap (close_brace p) (sym l)

pub other_is : (p : Pairing) (s : Side) (os : List Opened) (o : Opened) (ps : List ℕ) → p.others ≡ os ++ o ∷ [] → ps ≡ paired p.partners o.at
    → (nat_lt (opened_before (last p.braces)) (length p.others) && same_side o.side s) ≡ true
    → record { braces = p.braces; others = os; partners = ps } ≡ close_other p s (last p.others)
other_is p s os o ps e n t =
    let l : last p.others ≡ Some o = ap last e ∙ last_is os o in
    let f : front p.others ≡ os = ap front e ∙ front_is os o in
    rw (l, t, f, n) refl

pub other_not : (p : Pairing) (s : Side) (os : List Opened) (o : Opened) → p.others ≡ os ++ o ∷ []
    → (nat_lt (opened_before (last p.braces)) (length p.others) && same_side o.side s) ≡ false → alone p ≡ close_other p s (last p.others)
other_not p s os o e t =
    let l : last p.others ≡ Some o = ap last e ∙ last_is os o in
    rw (l, t) refl

pub fits_is : (p : Pairing) (bs : List Brace) → bs ≡ p.braces → (before count : ℕ) → before ≡ opened_before (slice_get bs (length bs - 1)) → count ≡ length p.others → (s o : Side) (v : Bool)
    → v ≡ (nat_lt before count && same_side o s) → (nat_lt (opened_before (last p.braces)) (length p.others) && same_side o s) ≡ v
fits_is p bs e before count b n s o v t =
    let x : before ≡ opened_before (last p.braces) = b ∙ ap opened_before (last_get bs ∙ ap last e) in
    (λ i. nat_lt (sym x i) (sym n i) && same_side o s) ∙ sym t

pub ok_after : {T E : Type 0} (P Q : T → Type 0) (r : Result T E) → ((x : T) → P x → Q x) → IfOk r P → IfOk r Q
ok_after P Q (Ok x) f p = f x p
ok_after P Q (Err e) f p = tt
