-- The bytes of a session as frames. A frame is "Content-Length: ", one to eight decimal digits, two ends of lines, and
-- a body of as many bytes as the digits say, at most 67,108,864.
use Rattle.std.specs.Prelude.{◌≡◌, ◌≢◌, ℕ, ◌+◌, ◌-◌, ◌*◌, ◌^◌, ◌<◌, ◌≤◌, ◌&&◌, ◌==◌, ◌⊎◌, List, [], ◌∷◌, ◌++◌, length, take, drop, true, Bool, nat_le, nat_lt, if◌then◌else◌, Option, Some, None, codes}
use Rattle.cl_frames.specs.declared.frame.Frame.{Frame}
use Rattle.cl_frames.specs.declared.frame.Frame.TheVariants.{Body, End, Bad, Failed, Long, Memory}
use Rattle.cl_frames.specs.declared.frame.Stop.{Stop}
use Rattle.cl_frames.specs.declared.frame.Stop.TheVariants as stop

-- what bytes begin with: a whole frame with this body, of so many bytes; a part of what may become a frame; or what no
-- frame begins with
pub data First : Type 0 where
  whole : List ℕ → ℕ → First
  cut : First
  wrong : First

abbrev pub is_digit : ℕ → Bool
is_digit byte = nat_le 48 byte && nat_le byte 57

-- first the bytes `front`, and then what `next` says
unfoldable pub after : List ℕ → (List ℕ → First) → List ℕ → First
after [] next bytes = next bytes
after (expected ∷ front) next [] = cut
after (expected ∷ front) next (byte ∷ bytes) = if byte == expected then after front next bytes else wrong

-- a body of `size` bytes, after a header with so many digits
abbrev pub body_from : ℕ → ℕ → List ℕ → First
body_from digits size bytes = if nat_le size (length bytes) then whole (take size bytes) (20 + digits + size) else cut

-- the rest of a length, of which so many digits have this value, and what comes after it
unfoldable pub length_from : ℕ → ℕ → List ℕ → First
length_from digits value [] = cut
length_from digits value (byte ∷ bytes) =
    if is_digit byte then
    (let more = value * 10 + (byte - 48) in
    if nat_lt digits 8 && nat_le more 67108864 then length_from (digits + 1) more bytes else wrong)
    else (if digits == 0 then wrong else after (codes "\r\n\r\n") (body_from digits value) (byte ∷ bytes))

-- what bytes begin with
unfoldable pub first : List ℕ → First
first bytes = after (codes "Content-Length: ") (length_from 0 0) bytes

-- what may still be taken before the 2^40th byte of a session, of which `at` bytes were taken
abbrev pub window : ℕ → List ℕ → List ℕ
window at bytes = take (2 ^ 40 - 1 - at) bytes

-- how far a session was read: how many bytes were taken, and the answer that ended it
pub record FramesState : Type 0 where
  pub taken : ℕ
  pub last : Option Frame

-- the answer of a stop
abbrev pub stopped : Stop → Frame
stopped stop.End = End
stopped (stop.Bad offset) = Bad offset
stopped stop.Failed = Failed
stopped stop.Long = Long
stopped stop.Memory = Memory

-- the answer that ends a session
abbrev pub last_of : Frame → Option Frame
last_of (Body text) = None
last_of End = Some End
last_of (Bad offset) = Some (Bad offset)
last_of Failed = Some Failed
last_of Long = Some Long
last_of Memory = Some Memory

-- all bytes were taken, and they are a part of a frame that may go on
pub record EndsWithin (at : ℕ) (bytes : List ℕ) (count : ℕ) : Type 0 where
  pub some : bytes ≢ []
  pub part : first bytes ≡ cut
  pub all : count ≡ length bytes
  pub room : at + length bytes < 2 ^ 40

-- what an answer tells of the bytes that were left, of which `count` were taken
abbrev pub Tells : ℕ → List ℕ → ℕ → Frame → Type 0
Tells at bytes count (Body text) = first (window at bytes) ≡ whole text count
Tells at bytes count End = bytes ≡ []
Tells at bytes count (Bad offset) = (offset ≡ at) × ((first (window at bytes) ≡ wrong) ⊎ EndsWithin at bytes count)
Tells at bytes count Failed = first (take count bytes) ≡ cut
Tells at bytes count Long = (first (window at bytes) ≡ cut) × (at + count ≡ 2 ^ 40)
Tells at bytes count Memory = Unit {0}

-- a read of a frame, where `at` bytes were taken before and `now` are after: `count` bytes were taken of those that
-- were left, and what is left and the answer go with them
pub record ReadsFrame (at now : ℕ) (bytes : List ℕ) (left : Option (List ℕ)) (frame : Frame) : Type 0 where
  pub count : ℕ
  pub within : count ≤ length bytes
  pub left_is : left ≡ Some (drop count bytes)
  pub now_is : now ≡ at + count
  pub tells : Tells at bytes count frame

-- ---- the form of a frame, read back

abbrev pub are_digits : List ℕ → Bool
are_digits [] = true
are_digits (digit ∷ digits) = is_digit digit && are_digits digits

-- the number that decimal digits spell, after those that spelled `value`
abbrev pub spelled : ℕ → List ℕ → ℕ
spelled value [] = value
spelled value (digit ∷ digits) = spelled (value * 10 + (digit - 48)) digits

-- the bytes are the name, one to eight digits that spell the body's length, two ends of lines, the body, and some rest
pub record HasForm (bytes body : List ℕ) (n : ℕ) : Type 0 where
  pub digits : List ℕ
  pub rest : List ℕ
  pub are : are_digits digits ≡ true
  pub some : 0 < length digits
  pub few : length digits ≤ 8
  pub spell : spelled 0 digits ≡ length body
  pub small : length body ≤ 67108864
  pub form : bytes ≡ codes "Content-Length: " ++ (digits ++ (codes "\r\n\r\n" ++ (body ++ rest)))
  pub count : n ≡ 20 + length digits + length body
