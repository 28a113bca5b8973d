-- The steps, and how they join.
use Rattle.std.proofs.Common.{◌≡◌, List, [], ◌∷◌, ◌++◌, length, drop, ◌-◌, refl, sym, ap, subst, ◌∙◌, append_assoc}
use Rattle.cl_macro.specs.Rules.{Rules}
use Rattle.cl_macro.specs.declared.word.Word.{Word}
use Rattle.cl_macro.specs.declared.note.Note.{Note}
use Rattle.cl_macro.specs.Words.{looks}
use Rattle.cl_macro.specs.Turns.{Stays, Misfits, Open, turn, stay_notes}
use Rattle.cl_macro.specs.Replacing.{Works, done, stays, misfits, open_ended}
use Rattle.cl_macro.specs.Walks.{Walks}
use Rattle.cl_macro.proofs.Shapes.{Staying, Misfitting, Opening, Nothing, shape, shape_at}

pub append_nil : {A : Type 0} (xs : List A) → xs ++ [] ≡ xs
append_nil [] = refl
append_nil (x ∷ xs) = ap (λ ys. x ∷ ys) (append_nil xs)

module _ (rules : Rules) where
  works_along : {work rest out left out2 : List Word} {ns ns2 : List Note} → out ≡ out2 → ns ≡ ns2 → Works rules work rest out left ns → Works rules work rest out2 left ns2
  works_along {work = work} {rest = rest} {left = left} {out2 = out2} {ns = ns} e f d =
      subst (λ (n : List Note). Works rules work rest out2 left n) f (subst (λ (o : List Word). Works rules work rest o left ns) e d)

  pub walks_none : (work rest : List Word) → Walks rules work rest [] [] work rest
  walks_none work rest = record {
    on = λ out left ns d. d;
    back = λ out left ns d. record { later = out; more = ns; works = d; words = refl; all = refl };
  }

  pub walks_then : (w r f : List Word) (n : List Note) (w2 r2 f2 : List Word) (n2 : List Note) (w3 r3 : List Word)
      → Walks rules w r f n w2 r2 → Walks rules w2 r2 f2 n2 w3 r3 → Walks rules w r (f ++ f2) (n ++ n2) w3 r3
  walks_then w r f n w2 r2 f2 n2 w3 r3 a b = record {
    on = λ out left ns d. works_along (sym (append_assoc f f2 out)) (sym (append_assoc n n2 ns)) (a.on _ left _ (b.on out left ns d));
    back = λ out left ns d. let c = a.back out left ns d in let e = b.back c.later left c.more c.works in record {
      later = e.later;
      more = e.more;
      works = e.works;
      words = c.words ∙ ap (λ xs. f ++ xs) e.words ∙ sym (append_assoc f f2 e.later);
      all = c.all ∙ ap (λ xs. n ++ xs) e.all ∙ sym (append_assoc n n2 e.more);
    };
  }

  pub walks_stays : (w : Word) (work rest : List Word) → turn rules.macros w (work ++ rest) ≡ Stays → Walks rules (w ∷ work) rest (w ∷ []) (looks w) work rest
  walks_stays w work rest t = record {
    on = λ out left ns d. stays w work rest out left ns t d;
    back = λ out left ns d. let s : Staying rules w work rest out left ns = shape_at rules Stays w work rest out left ns t d in
        record { later = s.later; more = s.more; works = s.works; words = s.words; all = s.all };
  }

  pub walks_misfits : (w : Word) (work rest behind : List Word) → turn rules.macros w (work ++ rest) ≡ Misfits behind
      → Walks rules (w ∷ work) rest (w ∷ behind) (stay_notes 19 w behind) (drop (length behind) work) (drop (length behind - length work) rest)
  walks_misfits w work rest behind t = record {
    on = λ out left ns d. misfits w work rest behind out left ns t d;
    back = λ out left ns d. let s : Misfitting rules w work rest behind out left ns = shape_at rules (Misfits behind) w work rest out left ns t d in
        record { later = s.later; more = s.more; works = s.works; words = s.words; all = s.all };
  }

  pub walks_open : (w : Word) (work rest : List Word) → turn rules.macros w (work ++ rest) ≡ Open
      → Walks rules (w ∷ work) rest (w ∷ (work ++ rest)) (stay_notes 20 w (work ++ rest)) [] []
  walks_open w work rest t = record {
    on = λ out left ns d. let s : Nothing rules [] out left ns = shape rules d in
        subst (λ (l : List Word). Works rules (w ∷ work) rest ((w ∷ (work ++ rest)) ++ out) l (stay_notes 20 w (work ++ rest) ++ ns)) (sym s.all)
        (works_along (sym (append_nil _) ∙ ap (λ xs. (w ∷ (work ++ rest)) ++ xs) (sym s.words)) (sym (append_nil _) ∙ ap (λ xs. stay_notes 20 w (work ++ rest) ++ xs) (sym s.notes))
        (open_ended w work rest t));
    back = λ out left ns d. let s : Opening rules w work rest out left ns = shape_at rules Open w work rest out left ns t d in
        record {
          later = [];
          more = [];
          works = subst (λ (l : List Word). Works rules [] [] [] l []) (sym s.none) (done []);
          words = s.words ∙ sym (append_nil _);
          all = s.all ∙ sym (append_nil _);
        };
  }
