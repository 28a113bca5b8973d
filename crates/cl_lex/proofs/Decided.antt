-- What can be told to hold or not.
use Rattle.std.proofs.Common.{◌≡◌, ◌⊎◌, ℕ, zero, suc, ◌<◌, ◌≤◌, Bool, true, false, arith, inl, inr, refl, subst}
use Rattle.cl_lex.proofs.Pass.{one_more}

abbrev pub Dec : Type 0 → Type 0
Dec P = P ⊎ (P → ⊥)

pub dec_and : {P Q : Type 0} → Dec P → Dec Q → Dec (P × Q)
dec_and (inl p) (inl q) = inl (p, q)
dec_and (inl p) (inr n) = inr (λ h. n h.1)
dec_and (inr n) q = inr (λ h. n h.0)

pub dec_or : {P Q : Type 0} → Dec P → Dec Q → Dec (P ⊎ Q)
dec_or (inl p) q = inl (inl p)
dec_or (inr n) (inl q) = inl (inr q)
dec_or {P} {Q} (inr n) (inr m) = inr neither
  where
    neither : P ⊎ Q → ⊥
    neither (inl p) = n p
    neither (inr q) = m q

pub dec_if : {P Q : Type 0} → Dec P → Dec Q → Dec (P → Q)
dec_if (inr n) q = inl (λ p. absurd (n p))
dec_if (inl p) (inl q) = inl (λ _. q)
dec_if (inl p) (inr m) = inr (λ h. m (h p))

pub dec_not : {P : Type 0} → Dec P → Dec (P → ⊥)
dec_not (inl p) = inr (λ n. n p)
dec_not (inr n) = inl n

pub dec_as : {P Q : Type 0} → (P → Q) → (Q → P) → Dec P → Dec Q
dec_as f g (inl p) = inl (f p)
dec_as f g (inr n) = inr (λ q. n (g q))

pub dec_three : {A B C : Type 0} → Dec A → Dec B → Dec C → Dec (A × B × C)
dec_three a b c = dec_as (λ p. let q = p.1 in (p.0, q.0, q.1)) (λ p. (p.0, (p.1, p.2))) (dec_and a (dec_and b c))

pub dec_four : {A B C D : Type 0} → Dec A → Dec B → Dec C → Dec D → Dec (A × B × C × D)
dec_four a b c d = dec_as (λ p. let q = p.1 in (p.0, q.0, q.1, q.2)) (λ p. (p.0, (p.1, p.2, p.3))) (dec_and a (dec_three b c d))

pub dec_five : {A B C D E : Type 0} → Dec A → Dec B → Dec C → Dec D → Dec E → Dec (A × B × C × D × E)
dec_five a b c d e = dec_as (λ p. let q = p.1 in (p.0, q.0, q.1, q.2, q.3)) (λ p. (p.0, (p.1, p.2, p.3, p.4))) (dec_and a (dec_four b c d e))

pub dec_six : {A B C D E F : Type 0} → Dec A → Dec B → Dec C → Dec D → Dec E → Dec F → Dec (A × B × C × D × E × F)
dec_six a b c d e f = dec_as (λ p. let q = p.1 in (p.0, q.0, q.1, q.2, q.3, q.4)) (λ p. (p.0, (p.1, p.2, p.3, p.4, p.5))) (dec_and a (dec_five b c d e f))

pub dec_bool : (b c : Bool) → Dec (b ≡ c)
dec_bool true true = inl refl
dec_bool false false = inl refl
dec_bool true false = inr (λ e. cc)
dec_bool false true = inr (λ e. cc)

order : (x y : ℕ) → (x < y) ⊎ ((y < x) ⊎ (x ≡ y))
order x y = grind arith

pub dec_lt : (x y : ℕ) → Dec (x < y)
dec_lt x y = go (order x y)
  where
    go : (x < y) ⊎ ((y < x) ⊎ (x ≡ y)) → Dec (x < y)
    go (inl l) = inl l
    go (inr (inl l)) = inr (λ k. omega arith)
    go (inr (inr e)) = inr (λ k. omega arith)

pub dec_le : (x y : ℕ) → Dec (x ≤ y)
dec_le x y = go (order x y)
  where
    go : (x < y) ⊎ ((y < x) ⊎ (x ≡ y)) → Dec (x ≤ y)
    go (inl l) = inl (omega arith)
    go (inr (inl l)) = inr (λ k. omega arith)
    go (inr (inr e)) = inl (omega arith)

pub dec_eq : (x y : ℕ) → Dec (x ≡ y)
dec_eq x y = go (order x y)
  where
    go : (x < y) ⊎ ((y < x) ⊎ (x ≡ y)) → Dec (x ≡ y)
    go (inl l) = inr (λ e. omega arith)
    go (inr (inl l)) = inr (λ e. omega arith)
    go (inr (inr e)) = inl e

-- of all numbers between two
pub dec_span : (P : ℕ → Type 0) → ((i : ℕ) → Dec (P i)) → (from to : ℕ) → Dec ((i : ℕ) → from ≤ i → i < to → P i)
dec_span P each from zero = inl (λ i low high. absurd (omega arith))
dec_span P each from (suc to) = go (dec_le from to) (dec_span P each from to) (each to)
  where
    go : Dec (from ≤ to) → Dec ((i : ℕ) → from ≤ i → i < to → P i) → Dec (P to) → Dec ((i : ℕ) → from ≤ i → i < suc to → P i)
    go (inr n) before here = inl (λ i low high. absurd (n (omega arith)))
    go (inl l) (inr n) here = inr (λ all. n (λ i low high. all i low (omega arith)))
    go (inl l) (inl before) (inr m) = inr (λ all. m (all to l (omega arith)))
    go (inl l) (inl before) (inl p) = inl (λ i low high. one_more P from to before p i low (omega arith))

-- the greatest number below another of which it holds
pub record Greatest (P : ℕ → Type 0) (n : ℕ) : Type 0 where
  pub is : ℕ
  pub below : is < n
  pub holds : P is
  pub most : (j : ℕ) → is < j → j < n → P j → ⊥

pub greatest : (P : ℕ → Type 0) → ((i : ℕ) → Dec (P i)) → (n : ℕ) → Greatest P n ⊎ ((i : ℕ) → i < n → P i → ⊥)
greatest P each zero = inr (λ i high p. omega arith)
greatest P each (suc n) = go (each n) (greatest P each n)
  where
    split : (i : ℕ) → i < suc n → (i < n) ⊎ (i ≡ n)
    split i l = grind arith

    later : (g : Greatest P n) → (P n → ⊥) → (j : ℕ) → g.is < j → j < suc n → P j → ⊥
    later g m j low high p = elim (split j high) as (λ _. ⊥) [ inl l ↦ g.most j low l p | inr e ↦ m (subst P e p) ]

    none : ((i : ℕ) → i < n → P i → ⊥) → (P n → ⊥) → (i : ℕ) → i < suc n → P i → ⊥
    none before m i high p = elim (split i high) as (λ _. ⊥) [ inl l ↦ before i l p | inr e ↦ m (subst P e p) ]

    go : Dec (P n) → Greatest P n ⊎ ((i : ℕ) → i < n → P i → ⊥) → Greatest P (suc n) ⊎ ((i : ℕ) → i < suc n → P i → ⊥)
    go (inl p) before = inl (record { is = n; below = omega arith; holds = p; most = λ j low high q. omega arith })
    go (inr m) (inl g) = inl (record { is = g.is; below = omega (arith, g.below); holds = g.holds; most = later g m })
    go (inr m) (inr before) = inr (none before m)
