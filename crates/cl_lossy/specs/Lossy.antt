-- Bytes shown as text: each byte that is part of no UTF-8 character stands as U+FFFD.
use Rattle.std.specs.Prelude.{ℕ, zero, suc, ◌-◌, ◌==◌, List, [], ◌∷◌, ◌++◌, take, if◌then◌else◌}
use Rattle.std.specs.Str.{is_utf8}
use Rattle.std.specs.Str.Lossy.{replacement_bytes}

-- how many bytes the character takes that begins the bytes, and 0 where none does
unfoldable pub character_length : List ℕ → ℕ
character_length bs = if is_utf8 (take 1 bs) then 1
    else (if is_utf8 (take 2 bs) then 2
    else (if is_utf8 (take 3 bs) then 3
    else (if is_utf8 (take 4 bs) then 4 else 0)))

-- the bytes shown, where n bytes of a character are still to come
unfoldable pub shown_after : ℕ → List ℕ → List ℕ
shown_after n [] = []
shown_after (suc n) (b ∷ bs) = b ∷ shown_after n bs
shown_after zero (b ∷ bs) = if character_length (b ∷ bs) == 0 then replacement_bytes ++ shown_after 0 bs
    else b ∷ shown_after (character_length (b ∷ bs) - 1) bs

abbrev pub shown : List ℕ → List ℕ
shown bs = shown_after 0 bs
