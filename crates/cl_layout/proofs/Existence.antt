-- Layouts exist where each member stands behind those that its type is made of, and are one: by how far the numbers of a tag's
-- members go.
use Rattle.std.proofs.Common.{◌≡◌, ◌≤◌, ◌<◌, ℕ, zero, suc, Bool, List, [], ◌∷◌, Option, Some, None, refl, sym, ap, ◌∙◌, arith}
use Rattle.std.specs.Prelude.{max}
use Rattle.cl_types.specs.declared.unit.Member.{Member}
use Rattle.cl_layout.specs.declared.layout.Layout.{Layout}
use Rattle.cl_layout.specs.declared.layout.Layout.TheVariants.{Unknown}
use Rattle.cl_layout.specs.declared.room.Room.{Room}
use Rattle.cl_layout.specs.declared.tag_key.TagKey.{TagKey}
use Rattle.cl_layout.specs.Layouts.{AreLayouts, beginning, content_layout, fill, filled, finished, is_last, layout_at, member_over, needed}
use Rattle.cl_layout.specs.Ordered.{AllBefore, AreBehind, ContentBefore, IsBefore, IsOrdered}

abbrev Layouts : Type 0
Layouts = Bool → ℕ → Layout

abbrev Content : Type 0
Content = ℕ → Option (List Member)

-- the least number that is above those of all members
abbrev end_of : List Member → ℕ
end_of [] = 0
end_of (m ∷ ms) = max (suc m.decl.0) (end_of ms)

abbrev end_in : Option (List Member) → ℕ
end_in None = 0
end_in (Some ms) = end_of ms

end_before : (n : ℕ) (ms : List Member) → AllBefore n ms → end_of ms ≤ n
end_before n [] b = omega arith
end_before n (m ∷ ms) b = let more : end_of ms ≤ n = end_before n ms b.1 in let here : m.decl.0 < n = b.0 in omega arith

content_before : (n bound : ℕ) (o : Option (List Member)) → ContentBefore n o → n < bound → end_in o < bound
content_before n bound None b h = omega arith
content_before n bound (Some ms) b h = let most : end_of ms ≤ n = end_before n ms b in omega arith

-- two functions that give one layout for each tag whose members end before a bound
abbrev AgreeBelow : Content → ℕ → Layouts → Layouts → Type 0
AgreeBelow content bound f g = (union : Bool) (tag : ℕ) → end_in (content tag) < bound → f union tag ≡ g union tag

need_agrees : (content : Content) (f g : Layouts) (n bound : ℕ) (o : Option TagKey) → IsBefore content n o → n < bound → AgreeBelow content bound f g → layout_at f o ≡ layout_at g o
need_agrees content f g n bound None b h agree = refl
need_agrees content f g n bound (Some need) b h agree = agree need.union need.tag (content_before n bound (content need.tag) b h)

fill_agrees : (content : Content) (f g : Layouts) (bound : ℕ) (union : Bool) (room : Option Room) (ms : List Member) → AreBehind content ms → end_of ms ≤ bound → AgreeBelow content bound f g
    → fill f union room ms ≡ fill g union room ms
fill_agrees content f g bound union room [] b h agree = refl
fill_agrees content f g bound union room (m ∷ ms) b h agree =
    let first : suc m.decl.0 ≤ bound = omega arith in
    let rest : end_of ms ≤ bound = omega arith in
    let same : layout_at f (needed m.ty) ≡ layout_at g (needed m.ty) = need_agrees content f g m.decl.0 bound (needed m.ty) b.0 first agree in
    ap (λ (l : Layout). fill f union (filled union room (member_over l (is_last ms) m.ty) m.width) ms) same
    ∙ fill_agrees content f g bound union (filled union room (member_over (layout_at g (needed m.ty)) (is_last ms) m.ty) m.width) ms b.1 rest agree

content_agrees : (content : Content) (f g : Layouts) (bound : ℕ) (union : Bool) (tag : ℕ) (o : Option (List Member)) → content tag ≡ o → IsOrdered content → end_in o ≤ bound
    → AgreeBelow content bound f g → content_layout f union o ≡ content_layout g union o
content_agrees content f g bound union tag None e ordered h agree = refl
content_agrees content f g bound union tag (Some ms) e ordered h agree =
    ap finished (fill_agrees content f g bound union (Some beginning) ms (ordered tag ms e) h agree)

-- ---- there is one alone

same_below : (content : Content) (f g : Layouts) → IsOrdered content → AreLayouts content f → AreLayouts content g → (bound : ℕ) → AgreeBelow content bound f g
same_below content f g ordered are also zero union tag h = absurd (omega arith)
same_below content f g ordered are also (suc bound) union tag h =
    let most : end_in (content tag) ≤ bound = omega arith in
    are union tag
    ∙ content_agrees content f g bound union tag (content tag) refl ordered most (same_below content f g ordered are also bound)
    ∙ sym (also union tag)

pub one_layout : (content : Content) (f g : Layouts) → IsOrdered content → AreLayouts content f → AreLayouts content g → (union : Bool) (tag : ℕ) → f union tag ≡ g union tag
one_layout content f g ordered are also union tag = same_below content f g ordered are also (suc (end_in (content tag))) union tag (omega arith)

-- ---- there is one

-- layouts in so many rounds, each over those of the round before
abbrev laid : Content → ℕ → Layouts
laid content zero union tag = Unknown
laid content (suc n) union tag = content_layout (laid content n) union (content tag)

laid_agree : (content : Content) → IsOrdered content → (n m bound : ℕ) → bound ≤ n → bound ≤ m → AgreeBelow content bound (laid content n) (laid content m)
laid_agree content ordered zero m bound h k union tag below = absurd (omega arith)
laid_agree content ordered (suc n) zero bound h k union tag below = absurd (omega arith)
laid_agree content ordered (suc n) (suc m) bound h k union tag below =
    content_agrees content (laid content n) (laid content m) (end_in (content tag)) union tag (content tag) refl ordered (omega arith)
    (laid_agree content ordered n m (end_in (content tag)) (omega arith) (omega arith))

abbrev whole : Content → Layouts
whole content union tag = laid content (suc (end_in (content tag))) union tag

whole_agrees : (content : Content) → IsOrdered content → (n : ℕ) → AgreeBelow content n (laid content n) (whole content)
whole_agrees content ordered n union tag below =
    laid_agree content ordered n (suc (end_in (content tag))) (suc (end_in (content tag))) (omega arith) (omega arith) union tag (omega arith)

are_layouts : (content : Content) → IsOrdered content → AreLayouts content (whole content)
are_layouts content ordered union tag =
    content_agrees content (laid content (end_in (content tag))) (whole content) (end_in (content tag)) union tag (content tag) refl ordered (omega arith)
    (whole_agrees content ordered (end_in (content tag)))

pub some_layouts : (content : Content) → IsOrdered content → (layouts : Layouts) × AreLayouts content layouts
some_layouts content ordered = (whole content, are_layouts content ordered)
