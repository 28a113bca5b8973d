-- One step of the work on structures and unions.
use Rattle.std.proofs.Common.{◌≡◌, ◌≤◌, ◌<◌, ◌+◌, ◌==◌, ◌&&◌, if◌then◌else◌, ℕ, Bool, true, false, List, [], ◌∷◌, Option, Some, None, drop, length, ◌++◌, zero, suc, Result, Ok, Err, add-one, append_assoc, length-drop, refl, sym, ap, subst, ◌∙◌, arith, rules}
use Rattle.std.proofs.lemmas.List.{drop_all}
use Rattle.std.specs.List.{All}
use Rattle.std.specs.Option.{IfSome, option_to_list}
use Rattle.std.specs.Result.{OnOk}
use Rattle.std.proofs.lemmas.List.Elements.{All-pop, All-push}
use Rattle.std.proofs.lemmas.Result.{on_ok_weaker}
use Rattle.std.specs.BTreeMap.{BTreeMap}
use Rattle.cl_types.specs.declared.unit.Member.{Member}
use Rattle.cl_layout.specs.declared.layout.Layout.{Layout}
use Rattle.cl_layout.specs.declared.layout.Layout.TheVariants.{Incomplete}
use Rattle.cl_layout.specs.declared.tag_key.TagKey.{TagKey}
use Rattle.cl_layout.specs.declared.room.Room.{Room}
use Rattle.cl_layout.specs.declared.work.Frame.{Frame}
use Rattle.cl_layout.specs.declared.work.Work.{Work}
use Rattle.cl_layout.specs.Layouts.{AreLayouts, beginning, begins, content_layout, fill, filled, finished, is_last, layout_at, member_over, needed, offsets}
use Rattle.cl_layout.specs.Tables.{IsSound, Stands, Tells, found, need_of, room_after, same_kind}

-- a member more is placed
pub stands_next : (layouts : Bool → ℕ → Layout) (old new : Frame) (m : Member) (ms : List Member) (inner : Layout)
    → drop old.next old.members ≡ m ∷ ms → drop new.next new.members ≡ ms
    → new.union ≡ old.union → new.tag ≡ old.tag → new.room ≡ room_after old inner (m ∷ ms)
    → inner ≡ layout_at layouts (need_of (m ∷ ms)) → Stands layouts old → Stands layouts new
stands_next layouts old new m ms inner before after union tag room is stands =
    let whole : layouts old.union old.tag ≡ finished (fill layouts old.union old.room (m ∷ ms)) =
    stands ∙ ap (λ (x : List Member). finished (fill layouts old.union old.room x)) before in
    let step : finished (fill layouts old.union old.room (m ∷ ms)) ≡ finished (fill layouts old.union (room_after old inner (m ∷ ms)) ms) =
    ap (λ (l : Layout). finished (fill layouts old.union (filled old.union old.room (member_over l (is_last ms) m.ty) m.width) ms)) (sym is) in
    ap (λ (u : Bool). layouts u new.tag) union
    ∙ ap (λ (t : ℕ). layouts old.union t) tag
    ∙ whole
    ∙ step
    ∙ ap (λ (r : Option Room). finished (fill layouts old.union r ms)) (sym room)
    ∙ ap (λ (x : List Member). finished (fill layouts old.union new.room x)) (sym after)
    ∙ ap (λ (u : Bool). finished (fill layouts u new.room (drop new.next new.members))) (sym union)

-- none is placed yet
pub stands_first : (content : ℕ → Option (List Member)) (layouts : Bool → ℕ → Layout) (frame : Frame) → AreLayouts content layouts
    → content frame.tag ≡ Some frame.members → frame.next ≡ 0 → frame.room ≡ Some beginning → Stands layouts frame
stands_first content layouts frame are given next room =
    are frame.union frame.tag
    ∙ ap (λ (o : Option (List Member)). content_layout layouts frame.union o) given
    ∙ ap (λ (r : Option Room). finished (fill layouts frame.union r frame.members)) (sym room)
    ∙ ap (λ (n : ℕ). finished (fill layouts frame.union frame.room (drop n frame.members))) (sym next)

-- all are placed
pub stands_last : (layouts : Bool → ℕ → Layout) (frame : Frame) → length frame.members ≤ frame.next → Stands layouts frame → finished frame.room ≡ layouts frame.union frame.tag
stands_last layouts frame h stands =
    sym (stands ∙ ap (λ (ms : List Member). finished (fill layouts frame.union frame.room ms)) (drop_all frame.next frame.members h))

same_kinds : (u v : Bool) → same_kind u v ≡ true → u ≡ v
same_kinds true true h = refl
same_kinds true false h = cc
same_kinds false true h = cc
same_kinds false false h = refl

first_true : (b c : Bool) → (b && c) ≡ true → b ≡ true
first_true true c h = refl
first_true false c h = h

second_true : (b c : Bool) → (b && c) ≡ true → c ≡ true
second_true true c h = h
second_true false c h = search (rules, h)

equal_numbers : (a b : ℕ) → (a == b) ≡ true → a ≡ b
equal_numbers a b h = grind (arith, h)

-- a right layout is kept
pub tells_put : (layouts : Bool → ℕ → Layout) (structures unions more_structures more_unions : BTreeMap ℕ Layout) (union : Bool) (tag : ℕ) (l : Layout)
    → l ≡ layouts union tag
    → ((u : Bool) (n : ℕ) → found u more_structures more_unions n ≡ (if same_kind u union && (n == tag) then Some l else found u structures unions n))
    → Tells layouts structures unions → Tells layouts more_structures more_unions
tells_put layouts structures unions more_structures more_unions union tag l is put tells u n = go (same_kind u union && (n == tag)) refl
  where
    go : (b : Bool) → (same_kind u union && (n == tag)) ≡ b → IfSome (found u more_structures more_unions n) (λ x. x ≡ layouts u n)
    go true h =
        let kinds : u ≡ union = same_kinds u union (first_true (same_kind u union) (n == tag) h) in
        let tags : n ≡ tag = equal_numbers n tag (second_true (same_kind u union) (n == tag) h) in
        let here : found u more_structures more_unions n ≡ Some l = put u n ∙ ap (λ (b : Bool). if b then Some l else found u structures unions n) h in
        subst (λ (o : Option Layout). IfSome o (λ x. x ≡ layouts u n)) (sym here)
        (is ∙ ap (λ (v : Bool). layouts v tag) (sym kinds) ∙ ap (λ (m : ℕ). layouts u m) (sym tags))
    go false h =
        let here : found u more_structures more_unions n ≡ found u structures unions n = put u n ∙ ap (λ (b : Bool). if b then Some l else found u structures unions n) h in
        subst (λ (o : Option Layout). IfSome o (λ x. x ≡ layouts u n)) (sym here) (tells u n)

told_at : (o p : Option Layout) (layouts : Bool → ℕ → Layout) (need : TagKey) (l : Layout) → o ≡ p → o ≡ Some l → IfSome p (λ x. x ≡ layouts need.union need.tag) → l ≡ layouts need.union need.tag
told_at o p layouts need l e is told =
    let here : p ≡ Some l = sym e ∙ is in
    subst (λ (x : Option Layout). IfSome x (λ y. y ≡ layouts need.union need.tag)) here told

abbrev Content : Type 0
Content = ℕ → Option (List Member)

abbrev PutIn : Work → Work → TagKey → Layout → Type 0
PutIn old new need l =
    (u : Bool) (n : ℕ) → found u new.structures new.unions n ≡ (if same_kind u need.union && (n == need.tag) then Some l else found u old.structures old.unions n)

pub ended : {T E : Type 0} (r : Result T E) (content : Content) (old new : Work) (frame : Frame) (need : TagKey) (l : Layout)
    → need.union ≡ frame.union → need.tag ≡ frame.tag → l ≡ finished frame.room → length frame.members ≤ frame.next → OnOk r (PutIn old new need l) → new.frames ≡ old.frames
    → ((layouts : Bool → ℕ → Layout) → AreLayouts content layouts → Stands layouts frame) → IsSound content old → OnOk r (IsSound content new)
ended r content old new frame need l union tag is h put frames stands sound =
    on_ok_weaker r
    (λ (told : PutIn old new need l) (layouts : Bool → ℕ → Layout) (are : AreLayouts content layouts). (
      tells_put layouts old.structures old.unions new.structures new.unions need.union need.tag l
          (is ∙ stands_last layouts frame h (stands layouts are) ∙ ap (λ (u : Bool). layouts u frame.tag) (sym union) ∙ ap (λ (t : ℕ). layouts need.union t) (sym tag))
          told (sound layouts are).0,
      subst (λ (fs : List Frame). All (Stands layouts) fs) (sym frames) (sound layouts are).1,
    ))
    put

pub told_by : (o : Option Layout) (content : Content) (work : Work) (need : TagKey) → o ≡ found need.union work.structures work.unions need.tag → IsSound content work
    → IfSome o (λ l. (layouts : Bool → ℕ → Layout) → AreLayouts content layouts → l ≡ layouts need.union need.tag)
told_by None content work need e sound = tt
told_by (Some l) content work need e sound = λ layouts are. told_at (Some l) (found need.union work.structures work.unions need.tag) layouts need l e refl ((sound layouts are).0 need.union need.tag)

pub entered_none : {T E : Type 0} (r : Result T E) (content : Content) (old new : Work) (need : TagKey) → content need.tag ≡ None
    → OnOk r (PutIn old new need Incomplete) → new.frames ≡ old.frames → IsSound content old → OnOk r (IsSound content new)
entered_none r content old new need given put frames sound =
    on_ok_weaker r
    (λ (told : PutIn old new need Incomplete) (layouts : Bool → ℕ → Layout) (are : AreLayouts content layouts). (
      tells_put layouts old.structures old.unions new.structures new.unions need.union need.tag Incomplete
          (sym (are need.union need.tag ∙ ap (λ (o : Option (List Member)). content_layout layouts need.union o) given)) told (sound layouts are).0,
      subst (λ (fs : List Frame). All (Stands layouts) fs) (sym frames) (sound layouts are).1,
    ))
    put

pub entered_some : {T E : Type 0} (r : Result T E) (content : Content) (old : Work) (frames : List Frame) (frame : Frame) → content frame.tag ≡ Some frame.members
    → frame.next ≡ 0 → frame.room ≡ Some beginning → OnOk r (frames ≡ old.frames ++ frame ∷ []) → IsSound content old
    → OnOk r (IsSound content (record { structures = old.structures; unions = old.unions; frames = frames }))
entered_some r content old frames frame given next room push sound =
    on_ok_weaker r
    (λ (e : frames ≡ old.frames ++ frame ∷ []) (layouts : Bool → ℕ → Layout) (are : AreLayouts content layouts). (
      (sound layouts are).0,
      subst (λ (fs : List Frame). All (Stands layouts) fs) (sym e)
          (All-push (Stands layouts) old.frames frame (sound layouts are).1 (stands_first content layouts frame are given next room)),
    ))
    push

drop_step : (n : ℕ) (xs ms : List Member) (m : Member) → drop n xs ≡ m ∷ ms → drop (suc n) xs ≡ ms
drop_step zero [] ms m e = cc
drop_step zero (x ∷ xs) ms m e = cc
drop_step (suc n) [] ms m e = cc
drop_step (suc n) (x ∷ xs) ms m e = drop_step n xs ms m e

some_left : (n : ℕ) (xs : List Member) → n < length xs → drop n xs ≡ [] → ⊥
some_left n xs h e = let none : length (drop n xs) ≡ 0 = ap length e in omega (arith, length-drop {A = Member})

abbrev next_frame : Frame → Option Room → Frame
next_frame frame room = record { union = frame.union; tag = frame.tag; members = frame.members; next = frame.next + 1; room = room }

stepped : (layouts : Bool → ℕ → Layout) (frame : Frame) (room : Option Room) (inner : Layout) (rest : List Member) → drop frame.next frame.members ≡ rest
    → frame.next < length frame.members → room ≡ room_after frame inner rest → inner ≡ layout_at layouts (need_of rest) → Stands layouts frame → Stands layouts (next_frame frame room)
stepped layouts frame room inner [] e h is known stands = absurd (some_left frame.next frame.members h e)
stepped layouts frame room inner (m ∷ ms) e h is known stands =
    let more : drop (frame.next + 1) frame.members ≡ ms = ap (λ (k : ℕ). drop k frame.members) (add-one frame.next) ∙ drop_step frame.next frame.members ms m e in
    stands_next layouts frame (next_frame frame room) m ms inner e more refl refl is known stands

pub advanced : {T E : Type 0} (r : Result T E) (layouts : Bool → ℕ → Layout) (frame : Frame) (room : Option Room) (inner : Layout) (frames more : List Frame)
    → frame.next < length frame.members → room ≡ room_after frame inner (drop frame.next frame.members)
    → OnOk r (more ≡ frames ++ next_frame frame room ∷ []) → inner ≡ layout_at layouts (need_of (drop frame.next frame.members))
    → Stands layouts frame → All (Stands layouts) frames → OnOk r (All (Stands layouts) more)
advanced r layouts frame room inner frames more h is push known stands all =
    on_ok_weaker r
    (λ (e : more ≡ frames ++ next_frame frame room ∷ []).
    subst (λ (fs : List Frame). All (Stands layouts) fs) (sym e)
    (All-push (Stands layouts) frames (next_frame frame room) all (stepped layouts frame room inner (drop frame.next frame.members) refl h is known stands)))
    push

-- the next member is placed, where the layout of what its type is made of is known
pub placed : {T E : Type 0} (r : Result T E) (content : Content) (old new : Work) (frame : Frame) (inner : Layout) (need : Option TagKey)
    → ((layouts : Bool → ℕ → Layout) → AreLayouts content layouts → inner ≡ layout_at layouts need)
    → ((layouts : Bool → ℕ → Layout) → inner ≡ layout_at layouts need → Stands layouts frame → All (Stands layouts) old.frames → OnOk r (All (Stands layouts) new.frames))
    → (new.structures ≡ old.structures) × (new.unions ≡ old.unions)
    → ((layouts : Bool → ℕ → Layout) → AreLayouts content layouts → Stands layouts frame) → IsSound content old → OnOk r (IsSound content new)
placed (Ok x) content old new frame inner need known step tables stands sound = λ layouts are. (
  subst (λ (s : BTreeMap ℕ Layout). Tells layouts s new.unions) (sym tables.0)
      (subst (λ (u : BTreeMap ℕ Layout). Tells layouts old.structures u) (sym tables.1) (sound layouts are).0),
  step layouts (known layouts are) (stands layouts are) (sound layouts are).1,
)
placed (Err e) content old new frame inner need known step tables stands sound = tt

abbrev with_frames : Work → List Frame → Work
with_frames work frames = record { structures = work.structures; unions = work.unions; frames = frames }

-- one more is waited for
pub pushed : (content : Content) (work : Work) (frames : List Frame) (frame : Frame) → frames ≡ work.frames ++ frame ∷ []
    → ((layouts : Bool → ℕ → Layout) → AreLayouts content layouts → Stands layouts frame) → IsSound content work → IsSound content (with_frames work frames)
pushed content work frames frame e stands sound = λ layouts are. (
  (sound layouts are).0,
  subst (λ (fs : List Frame). All (Stands layouts) fs) (sym e) (All-push (Stands layouts) work.frames frame (sound layouts are).1 (stands layouts are)),
)

-- the last one is taken
pub popped : (content : Content) (work : Work) (frames : List Frame) (r : Option Frame) → work.frames ≡ frames ++ option_to_list r → IsSound content work
    → IsSound content (with_frames work frames)
popped content work frames r e sound = λ layouts are. ((sound layouts are).0, (All-pop (Stands layouts) work.frames frames r e (sound layouts are).1).0)

pub popped_none : (content : Content) (work : Work) (frames : List Frame) (r : Option Frame) → work.frames ≡ frames ++ option_to_list r → r ≡ None → IsSound content work
    → IsSound content (with_frames work frames)
popped_none content work frames r e is sound = popped content work frames r e sound

pub popped_stands : (content : Content) (work : Work) (frames : List Frame) (r : Option Frame) (frame : Frame) → work.frames ≡ frames ++ option_to_list r → r ≡ Some frame
    → IsSound content work → (layouts : Bool → ℕ → Layout) → AreLayouts content layouts → Stands layouts frame
popped_stands content work frames r frame e is sound layouts are =
    subst (λ (x : Option Frame). IfSome x (λ f. Stands layouts f)) is (All-pop (Stands layouts) work.frames frames r e (sound layouts are).1).1

-- where a further member begins is told
pub offsets_more : (layouts : Bool → ℕ → Layout) (union : Bool) (room after : Option Room) (made new whole : List (Option ℕ)) (rest ms : List Member) (m : Member) (inner l : Layout) (b : Option ℕ)
    → rest ≡ m ∷ ms → inner ≡ layout_at layouts (needed m.ty) → l ≡ member_over inner (is_last ms) m.ty → b ≡ begins union room l m.width → after ≡ filled union room l m.width
    → new ≡ made ++ b ∷ [] → made ++ offsets layouts union room rest ≡ whole → new ++ offsets layouts union after ms ≡ whole
offsets_more layouts union room after made new whole rest ms m inner l b split known lay first then_ push all =
    let right : l ≡ member_over (layout_at layouts (needed m.ty)) (is_last ms) m.ty = lay ∙ ap (λ (x : Layout). member_over x (is_last ms) m.ty) known in
    let moved : (made ++ b ∷ []) ++ offsets layouts union after ms ≡ made ++ (b ∷ offsets layouts union after ms) = simp append_assoc in
    let one : b ∷ offsets layouts union after ms ≡ begins union room l m.width ∷ offsets layouts union (filled union room l m.width) ms =
    ap (λ (x : Option ℕ). x ∷ offsets layouts union after ms) first ∙ ap (λ (r : Option Room). begins union room l m.width ∷ offsets layouts union r ms) then_ in
    let two : begins union room l m.width ∷ offsets layouts union (filled union room l m.width) ms ≡ offsets layouts union room (m ∷ ms) =
    ap (λ (x : Layout). begins union room x m.width ∷ offsets layouts union (filled union room x m.width) ms) right in
    ap (λ (x : List (Option ℕ)). x ++ offsets layouts union after ms) push
    ∙ moved
    ∙ ap (λ (x : List (Option ℕ)). made ++ x) (one ∙ two ∙ ap (offsets layouts union room) (sym split))
    ∙ all

pub known_found : (content : Content) (work : Work) (need : TagKey) (inner : Layout) (o : Option TagKey) → found need.union work.structures work.unions need.tag ≡ Some inner
    → o ≡ Some need → IsSound content work → (layouts : Bool → ℕ → Layout) → AreLayouts content layouts → inner ≡ layout_at layouts o
known_found content work need inner o e is sound layouts are =
    told_at (Some inner) (found need.union work.structures work.unions need.tag) layouts need inner (sym e) refl ((sound layouts are).0 need.union need.tag)
    ∙ ap (layout_at layouts) (sym is)
