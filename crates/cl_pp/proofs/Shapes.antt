-- What going over lines comes from.
use Rattle.std.proofs.Common.{◌≡◌, ℕ, ◌<◌, ◌≤◌, List, [], ◌∷◌, ◌++◌, Bool, true, false, refl, sym, subst, inl, inr}
use Rattle.std.specs.Prelude.{◌⊎◌}
use Rattle.cl_base.specs.declared.token.Token.{Token}
use Rattle.cl_base.specs.declared.token.Lexed.{Lexed}
use Rattle.cl_cond.specs.declared.mark.Groups.{Groups}
use Rattle.cl_cond.specs.declared.mark.Mark.{Mark}
use Rattle.cl_cond.specs.Sections.{GroupsOf}
use Rattle.cl_headers.specs.declared.resolving.Resolved.{Resolved}
use Rattle.cl_lex.specs.Lexing.{Lexes}
use Rattle.cl_pp.specs.declared.aim.Aim.{Aim}
use Rattle.cl_pp.specs.declared.aim.Aim.TheVariants as aim
use Rattle.cl_pp.specs.declared.aim.Target.{Target}
use Rattle.cl_pp.specs.declared.done.PpDone.{PpDone}
use Rattle.cl_pp.specs.Preprocessing.{Arrival, ComesTo, Does, Enters, Finds, Goes, Reads, State, Stays, Through, World, arrived_in, begin, behind, below, header_fault, lexed_by, marked}
use Rattle.cl_pp.specs.Preprocessing.{deep, end, enters, line, nothing, once, read, stays, stop}
use Rattle.cl_pp.specs.Runs.{runs}
use Rattle.cl_pp.specs.Standing.{is_stopped, with_faults}

-- the first line, and then the others
pub record Lined (w : World) (tokens : List Token) (mark : Mark) (marks : List Mark) (s t : State) : Type 0 where
  pub held : Bool
  pub aim : Aim
  pub mid : PpDone
  pub done : PpDone
  pub comes : ComesTo w tokens s mark held aim mid
  pub does : Does w aim mid done
  pub goes : Goes w tokens marks (behind mark held done s) t

-- nothing more is done, or the first line is gone over
abbrev pub Stepped : Bool → World → List Token → Mark → List Mark → State → State → Type 0
Stepped true w tokens mark marks s t = s ≡ t
Stepped false w tokens mark marks s t = Lined w tokens mark marks s t

abbrev pub Shape : World → List Token → List Mark → State → State → Type 0
Shape w tokens [] s t = s ≡ t
Shape w tokens (mark ∷ marks) s t = Stepped (is_stopped s.done) w tokens mark marks s t

pub shape : {w : World} {tokens : List Token} {marks : List Mark} {s t : State} → Goes w tokens marks s t → Shape w tokens marks s t
shape (end w tokens s) = refl
shape (stop w tokens mark marks s e) = subst (λ (b : Bool). Stepped b w tokens mark marks s s) (sym e) refl
shape (line w tokens mark marks s held aim mid done t e c d g) =
    subst (λ (b : Bool). Stepped b w tokens mark marks s t) (sym e) (record { held = held; aim = aim; mid = mid; done = done; comes = c; does = d; goes = g })

-- a file
pub record Opened (w : World) (old new : PpDone) : Type 0 where
  pub lexed : Lexed
  pub groups : Groups
  pub last : State
  pub lexes : Lexes w.text lexed
  pub grouped : GroupsOf lexed.tokens groups
  pub goes : Goes (lexed_by w lexed.faults) lexed.tokens (runs lexed.tokens groups.marks) (begin w.file lexed.faults groups.faults old) last
  pub is : new ≡ last.done

pub opened : {w : World} {old new : PpDone} → Reads w old new → Opened w old new
opened (read w old lexed groups t l g d) = record { lexed = lexed; groups = groups; last = t; lexes = l; grouped = g; goes = d; is = refl }

-- where the search comes to this, it is done
abbrev pub Arrived : World → Arrival → PpDone → Type 0
Arrived w (Stays done) new = new ≡ done
Arrived w (Enters number path text mid) new = Reads (below w number path text) mid new

pub record Searched (w : World) (target : Target) (old new : PpDone) : Type 0 where
  pub asked : List (List ℕ)
  pub found : Resolved
  pub finds : Finds w target asked found
  pub arrives : Arrived w (arrived_in w target asked found old) new

-- what is done by what is aimed at
abbrev pub Aimed : World → Aim → PpDone → PpDone → Type 0
Aimed w aim.Nothing old new = new ≡ old
Aimed w aim.Once old new = new ≡ marked w old
Aimed w (aim.Header target) old new = ((200 ≤ w.depth) × (new ≡ with_faults (header_fault 10 target) old)) ⊎ ((w.depth < 200) × Searched w target old new)

pub aimed : {w : World} {aim : Aim} {old new : PpDone} → Does w aim old new → Aimed w aim old new
aimed (nothing w done) = refl
aimed (once w done) = refl
aimed (deep w target done d) = inl (d, refl)
aimed (stays w target old done asked found d f e) = inr (d, record { asked = asked; found = found; finds = f; arrives = subst (λ (a : Arrival). Arrived w a done) (sym e) refl })
aimed (enters w target old mid done asked found number path text d f e r) = inr (d, record { asked = asked; found = found; finds = f; arrives = subst (λ (a : Arrival). Arrived w a done) (sym e) r })

-- ---- the resumed text

-- nothing is gone over
pub stop_at : (w : World) (tokens : List Token) (more : List Mark) (s : State) → is_stopped s.done ≡ true → Goes w tokens more s s
stop_at w tokens [] s e = end w tokens s
stop_at w tokens (mark ∷ marks) s e = stop w tokens mark marks s e

pub stopped : (w : World) (tokens : List Token) (marks : List Mark) (s t : State) → is_stopped s.done ≡ true → Shape w tokens marks s t → s ≡ t
stopped w tokens [] s t e h = h
stopped w tokens (mark ∷ marks) s t e h = subst (λ (b : Bool). Stepped b w tokens mark marks s t) e h

split_by : (b : Bool) (w : World) (tokens : List Token) (mark : Mark) (lines more : List Mark) (s t : State) → is_stopped s.done ≡ b → Stepped b w tokens mark (lines ++ more) s t
    → ((u : State) → Goes w tokens (lines ++ more) u t → Through w tokens lines more u t) → Through w tokens (mark ∷ lines) more s t
split_by true w tokens mark lines more s t e h k = record { mid = s; first = stop w tokens mark lines s e; later = subst (λ (x : State). Goes w tokens more s x) h (stop_at w tokens more s e) }
split_by false w tokens mark lines more s t e h k =
    let rest = k (behind mark h.held h.done s) h.goes in
    record { mid = rest.mid; first = line w tokens mark lines s h.held h.aim h.mid h.done rest.mid e h.comes h.does rest.first; later = rest.later }

pub split : (w : World) (tokens : List Token) (lines more : List Mark) (s t : State) → Goes w tokens (lines ++ more) s t → Through w tokens lines more s t
split w tokens [] more s t g = record { mid = s; first = end w tokens s; later = g }
split w tokens (mark ∷ lines) more s t g = split_by (is_stopped s.done) w tokens mark lines more s t refl (shape g) (λ u d. split w tokens lines more u t d)

join_by : (b : Bool) (w : World) (tokens : List Token) (mark : Mark) (lines more : List Mark) (s m t : State) → is_stopped s.done ≡ b → Stepped b w tokens mark lines s m → Goes w tokens more m t
    → ((u : State) → Goes w tokens lines u m → Goes w tokens (lines ++ more) u t) → Goes w tokens (mark ∷ (lines ++ more)) s t
join_by true w tokens mark lines more s m t e h l k =
    let same : s ≡ t = stopped w tokens more s t e (shape (subst (λ (x : State). Goes w tokens more x t) (sym h) l)) in
    subst (λ (x : State). Goes w tokens (mark ∷ (lines ++ more)) s x) same (stop w tokens mark (lines ++ more) s e)
join_by false w tokens mark lines more s m t e h l k = line w tokens mark (lines ++ more) s h.held h.aim h.mid h.done t e h.comes h.does (k (behind mark h.held h.done s) h.goes)

join_from : (w : World) (tokens : List Token) (lines more : List Mark) (s m t : State) → Goes w tokens lines s m → Goes w tokens more m t → Goes w tokens (lines ++ more) s t
join_from w tokens [] more s m t f l = let e : s ≡ m = shape f in subst (λ (x : State). Goes w tokens more x t) (sym e) l
join_from w tokens (mark ∷ lines) more s m t f l = join_by (is_stopped s.done) w tokens mark lines more s m t refl (shape f) l (λ u d. join_from w tokens lines more u m t d l)

pub join : (w : World) (tokens : List Token) (lines more : List Mark) (s t : State) → Through w tokens lines more s t → Goes w tokens (lines ++ more) s t
join w tokens lines more s t th = join_from w tokens lines more s th.mid t th.first th.later
