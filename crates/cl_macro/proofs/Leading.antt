-- The steps over the invocations in work.
use Rattle.std.proofs.Common.{◌≡◌, List, [], ◌∷◌, ◌++◌, length, drop, ◌-◌, refl, sym, ap, subst, ◌∙◌, append_assoc}
use Rattle.cl_base.specs.declared.macros.Macro.{Macro}
use Rattle.cl_macro.specs.Rules.{Rules}
use Rattle.cl_macro.specs.declared.word.Word.{Word}
use Rattle.cl_macro.specs.declared.note.Note.{Note}
use Rattle.cl_macro.specs.Turns.{Invokes, turn, args_of, invoking}
use Rattle.cl_macro.specs.Made.{made_notes}
use Rattle.cl_macro.specs.Params.{raws}
use Rattle.cl_macro.specs.Replacing.{Works, done, invokes, none, next}
use Rattle.cl_macro.specs.Frames.{begun}
use Rattle.cl_macro.specs.Walks.{Walks, Frame, Called, Inside, Outside, Goes, with_done, with_waiting, made_of, notes_of, Leads, working, between}
use Rattle.cl_macro.proofs.Shapes.{Invoked, Nothing, shape, shape_at, Nexts, each_shape}
use Rattle.cl_macro.proofs.Walking.{append_nil}

pub leads_none : (A : List Word → List Word → List Note → Type 0) → Leads A A []
leads_none A = record {
  on = λ total left ns a. a;
  back = λ total left ns a. record { more = ns; goes = a; all = refl };
}

pub leads_then : (A B C : List Word → List Word → List Note → Type 0) (n m : List Note) → Leads A B n → Leads B C m → Leads A C (n ++ m)
leads_then A B C n m a b = record {
  on = λ total left ns c. subst (λ (k : List Note). A total left k) (sym (append_assoc n m ns)) (a.on total left _ (b.on total left ns c));
  back = λ total left ns d. let p = a.back total left ns d in let q = b.back total left p.more p.goes in
      record { more = q.more; goes = q.goes; all = p.all ∙ ap (λ xs. n ++ xs) q.all ∙ sym (append_assoc n m q.more) };
}

module _ (rules : Rules) where
  works_along : {work rest out left out2 : List Word} {ns ns2 : List Note} → out ≡ out2 → ns ≡ ns2 → Works rules work rest out left ns → Works rules work rest out2 left ns2
  works_along {work = work} {rest = rest} {left = left} {out2 = out2} {ns = ns} e f d =
      subst (λ (n : List Note). Works rules work rest out2 left n) f (subst (λ (o : List Word). Works rules work rest o left ns) e d)

  called_along : (G : List Word → List Word → List Word → List Note → Type 0) (f : Frame) (o o2 : List Word) (ns : List Note) → o ≡ o2
      → Called rules G (with_done f o) ns → Called rules G (with_done f o2) ns
  called_along G f o o2 ns e d = subst (λ (x : List Word). Called rules G (with_done f x) ns) e d

  -- the innermost tokens go on
  pub leads_walks : (fs : List Frame) (w r f : List Word) (n : List Note) (w2 r2 before : List Word) → Walks rules w r f n w2 r2
      → Leads (working rules fs w r before) (working rules fs w2 r2 (before ++ f)) n
  unfolding Goes
  leads_walks [] w r f n w2 r2 before a = record {
    on = λ total left ns g. record {
      out = f ++ g.out;
      works = a.on g.out left ns g.works;
      words = g.words ∙ append_assoc before f g.out;
    };
    back = λ total left ns g. let c = a.back g.out left ns g.works in record {
      more = c.more;
      goes = record { out = c.later; works = c.works; words = g.words ∙ ap (λ xs. before ++ xs) c.words ∙ sym (append_assoc before f c.later) };
      all = c.all;
    };
  }
  leads_walks (h ∷ fs) w r f n w2 r2 before a = record {
    on = λ total left ns g. record {
      out = f ++ g.out;
      first = n ++ g.first;
      later = g.later;
      works = a.on g.out [] g.first g.works;
      called = called_along (Goes rules total left fs) h _ _ g.later (append_assoc before f g.out) g.called;
      all = ap (λ xs. n ++ xs) g.all ∙ sym (append_assoc n g.first g.later);
    };
    back = λ total left ns g. let c = a.back g.out [] g.first g.works in record {
      more = c.more ++ g.later;
      goes = record {
        out = c.later;
        first = c.more;
        later = g.later;
        works = c.works;
        called = called_along (Goes rules total left fs) h _ _ g.later (ap (λ xs. before ++ xs) c.words ∙ sym (append_assoc before f c.later)) g.called;
        all = refl;
      };
      all = g.all ∙ ap (λ xs. xs ++ g.later) c.all ∙ append_assoc n c.more g.later;
    };
  }

  three : (i a b c l : List Note) → i ++ ((a ++ (b ++ c)) ++ l) ≡ (i ++ (a ++ (b ++ c))) ++ l
  three i a b c l = sym (append_assoc i (a ++ (b ++ c)) l)

  inner_three : (a b c l : List Note) → (a ++ (b ++ c)) ++ l ≡ a ++ (b ++ (c ++ l))
  inner_three a b c l = append_assoc a (b ++ c) l ∙ ap (λ xs. a ++ xs) (append_assoc b c l)

  -- an invocation begins
  pub leads_invokes : (fs : List Frame) (w : Word) (work rest before behind : List Word) (m : Macro) → turn rules.macros w (work ++ rest) ≡ Invokes m behind
      → Leads (working rules fs (w ∷ work) rest before) (between rules fs (begun w work rest m behind before)) (invoking w behind)
  unfolding Goes
  leads_invokes [] w work rest before behind m t = record {
    on = λ total left ns c. let g : Outside rules total left (made_of rules (begun w work rest m behind before) c.full) (drop (length behind - length work) rest) before c.later = c.goes in
        record {
          out = g.out;
          works = works_along refl (ap (λ xs. invoking w behind ++ xs) (sym c.all)) (invokes w work rest m behind c.full c.inner g.out left c.later t c.each g.works);
          words = g.words;
        };
    back = λ total left ns g. let s : Invoked rules w work rest m behind g.out left ns = shape_at rules (Invokes m behind) w work rest g.out left ns t g.works in record {
      more = s.inner ++ (made_notes rules m (raws m (args_of m behind)) s.full ++ s.more);
      goes = record { full = s.full; inner = s.inner; later = s.more; each = s.each; goes = record { out = g.out; works = s.works; words = g.words }; all = refl };
      all = s.all;
    };
  }
  leads_invokes (h ∷ fs) w work rest before behind m t = record {
    on = λ total left ns c. let g : Inside rules (Goes rules total left fs) h (made_of rules (begun w work rest m behind before) c.full) (drop (length behind - length work) rest) before c.later = c.goes in
        record {
          out = g.out;
          first = invoking w behind ++ (c.inner ++ (made_notes rules m (raws m (args_of m behind)) c.full ++ g.first));
          later = g.later;
          works = invokes w work rest m behind c.full c.inner g.out [] g.first t c.each g.works;
          called = g.called;
          all = ap (λ xs. invoking w behind ++ xs) (c.all ∙ ap (λ xs. c.inner ++ (made_notes rules m (raws m (args_of m behind)) c.full ++ xs)) g.all ∙ sym (inner_three c.inner (made_notes rules m (raws m (args_of m behind)) c.full) g.first g.later))
              ∙ three (invoking w behind) c.inner (made_notes rules m (raws m (args_of m behind)) c.full) g.first g.later;
        };
    back = λ total left ns g. let s : Invoked rules w work rest m behind g.out [] g.first = shape_at rules (Invokes m behind) w work rest g.out [] g.first t g.works in record {
      more = s.inner ++ (made_notes rules m (raws m (args_of m behind)) s.full ++ (s.more ++ g.later));
      goes = record {
        full = s.full;
        inner = s.inner;
        later = s.more ++ g.later;
        each = s.each;
        goes = record { out = g.out; first = s.more; later = g.later; works = s.works; called = g.called; all = refl };
        all = refl;
      };
      all = g.all ∙ ap (λ xs. xs ++ g.later) s.all ∙ append_assoc (invoking w behind) _ g.later ∙ ap (λ xs. invoking w behind ++ xs) (inner_three s.inner (made_notes rules m (raws m (args_of m behind)) s.full) s.more g.later);
    };
  }

  -- an argument ends
  pub leads_ends : (fs : List Frame) (f : Frame) (before : List Word)
      → Leads (working rules (f ∷ fs) [] [] before) (between rules fs (with_done f before)) []
  unfolding Goes
  leads_ends fs f before = record {
    on = λ total left ns c. record {
      out = [];
      first = [];
      later = ns;
      works = done [];
      called = called_along (Goes rules total left fs) f _ _ ns (sym (append_nil before)) c;
      all = refl;
    };
    back = λ total left ns g. let s : Nothing rules [] g.out [] g.first = shape rules g.works in record {
      more = g.later;
      goes = called_along (Goes rules total left fs) f _ _ g.later (ap (λ xs. before ++ xs) s.words ∙ append_nil before) g.called;
      all = g.all ∙ ap (λ xs. xs ++ g.later) s.notes;
    };
  }

  -- the next argument begins
  pub leads_next : (fs : List Frame) (f : Frame) (arg : List Word) (waiting : List (List Word))
      → Leads (between rules fs (with_waiting f (arg ∷ waiting))) (working rules (with_waiting f waiting ∷ fs) arg [] []) []
  unfolding Goes
  leads_next fs f arg waiting = record {
    on = λ total left ns g. let c : Called rules (Goes rules total left fs) (with_done (with_waiting f waiting) g.out) g.later = g.called in record {
      full = g.out ∷ c.full;
      inner = g.first ++ c.inner;
      later = c.later;
      each = next arg g.out waiting c.full g.first c.inner g.works c.each;
      goes = rw (← append_assoc f.done (g.out ∷ []) c.full) c.goes;
      all = g.all ∙ ap (λ xs. g.first ++ xs) (c.all ∙ ap (λ full. c.inner ++ (made_notes rules f.mac f.args full ++ c.later)) (append_assoc f.done (g.out ∷ []) c.full)) ∙ sym (append_assoc g.first c.inner _);
    };
    back = λ total left ns c. let s : Nexts rules arg waiting c.full c.inner = each_shape rules c.each in
        let e : f.done ++ c.full ≡ (f.done ++ s.out ∷ []) ++ s.outs = ap (λ xs. f.done ++ xs) s.words ∙ sym (append_assoc f.done (s.out ∷ []) s.outs) in record {
          more = ns;
          goes = record {
            out = s.out;
            first = s.first;
            later = s.more ++ (made_notes rules f.mac f.args (f.done ++ c.full) ++ c.later);
            works = s.works;
            called = record {
              full = s.outs;
              inner = s.more;
              later = c.later;
              each = s.each;
              goes = subst (λ (full : List (List Word)). Goes rules total left fs (made_of rules f full) f.rest f.out c.later) e c.goes;
              all = ap (λ full. s.more ++ (made_notes rules f.mac f.args full ++ c.later)) e;
            };
            all = c.all ∙ ap (λ xs. xs ++ (made_notes rules f.mac f.args (f.done ++ c.full) ++ c.later)) s.all ∙ append_assoc s.first s.more _;
          };
          all = refl;
        };
  }

  -- an invocation is replaced
  pub leads_closes : (fs : List Frame) (f : Frame)
      → Leads (between rules fs (with_waiting f [])) (working rules fs (made_of rules f f.done) f.rest f.out) (notes_of rules f f.done)
  unfolding Goes
  leads_closes fs f = record {
    on = λ total left ns g. record {
      full = [];
      inner = [];
      later = ns;
      each = none;
      goes = rw (append_nil f.done) g;
      all = ap (λ full. made_notes rules f.mac f.args full ++ ns) (sym (append_nil f.done));
    };
    back = λ total left ns c. let s : (c.full ≡ []) × (c.inner ≡ []) = each_shape rules c.each in
        let e : f.done ++ c.full ≡ f.done = ap (λ xs. f.done ++ xs) s.0 ∙ append_nil f.done in record {
          more = c.later;
          goes = subst (λ (full : List (List Word)). Goes rules total left fs (made_of rules f full) f.rest f.out c.later) e c.goes;
          all = c.all ∙ ap (λ xs. xs ++ (made_notes rules f.mac f.args (f.done ++ c.full) ++ c.later)) s.1 ∙ ap (λ full. made_notes rules f.mac f.args full ++ c.later) e;
        };
  }
