-- Entries put onto a past.
use Rattle.std.proofs.Common.{◌≡◌, ℕ, ◌+◌, ◌≤◌, List, [], ◌∷◌, ◌++◌, reverse, length, map, ap, sym, ◌∙◌, refl, arith, append-nil, append_assoc, false, nat_eq, eq-eqb}
use Rattle.std.proofs.lemmas.Bool.{ne_eqb}
use Rattle.std.proofs.lemmas.List.{reverse-append}
use Rattle.cl_rpc.specs.declared.out.How.{How}
use Rattle.cl_rpc.specs.declared.out.Reply.{Reply}
use Rattle.cl_history.specs.declared.entry.Entry.{Entry}
use Rattle.cl_history.specs.declared.entry.Entry.TheVariants as entry
use Rattle.cl_history.specs.Headers.{past_at}
use Rattle.cl_core.specs.Deciding.{entry_of}

-- the entries, the oldest first, onto a past
abbrev pub onto : List Entry → List Entry → List Entry
onto [] past = past
onto (x ∷ xs) past = onto xs (x ∷ past)

pub onto_past : (old xs : List Entry) → reverse (old ++ xs) ≡ onto xs (reverse old)
onto_past old [] = ap reverse (append-nil old)
onto_past old (x ∷ xs) =
    ap reverse (sym (append_assoc old (x ∷ []) xs)) ∙ onto_past (old ++ x ∷ []) xs ∙ ap (onto xs) (reverse-append old (x ∷ []))

pub length_onto : (xs past : List Entry) → length (onto xs past) ≡ length xs + length past
length_onto [] past = omega arith
length_onto (x ∷ xs) past = length_onto xs (x ∷ past) ∙ omega arith

-- what a reply doesn't change, replies don't
pub unchanged : {X : Type 0} (f : List Entry → X) → ((m mark : ℕ) (h : How) (past : List Entry) → f (entry.Reply m mark h ∷ past) ≡ f past)
    → (rs : List Reply) (past : List Entry) → f (onto (map entry_of rs) past) ≡ f past
unchanged f same [] past = refl
unchanged f same (r ∷ rs) past = unchanged f same rs (entry_of r ∷ past) ∙ same r.message r.mark r.how past

-- the past at a mark stays as more comes
pub past_kept_one : (e : Entry) (past : List Entry) (mark : ℕ) → mark ≤ length past → past_at (e ∷ past) mark ≡ past_at past mark
past_kept_one e past mark le =
    let other : nat_eq (length (e ∷ past)) mark ≡ false = ne_eqb (length (e ∷ past)) mark (λ same. omega arith) in rw other refl

pub past_kept : (xs past : List Entry) (mark : ℕ) → mark ≤ length past → past_at (onto xs past) mark ≡ past_at past mark
past_kept [] past mark le = refl
past_kept (x ∷ xs) past mark le = past_kept xs (x ∷ past) mark (omega arith) ∙ past_kept_one x past mark le

pub past_whole : (past : List Entry) → past_at past (length past) ≡ past
past_whole [] = refl
past_whole (e ∷ past) = rw (eq-eqb (length (e ∷ past)) (length (e ∷ past)) refl) refl
