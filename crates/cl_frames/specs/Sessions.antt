-- The bytes of a whole session as its frames. Some body may be the last, after which nothing is read.
use Rattle.std.specs.Prelude.{◌≡◌, ◌≢◌, ℕ, ◌+◌, ◌^◌, ◌<◌, ◌≤◌, ◌⊎◌, List, [], ◌∷◌, ◌++◌, length, drop, Bool}
use Rattle.std.specs.Bool.{MatchBool}
use Rattle.cl_frames.specs.Frames.{whole, cut, wrong, first, window}

-- how the bytes of a session end: at a frame's edge; at bytes that are no frame, of which the first has this offset;
-- with more bytes than a session may have; or after the last body, with these bytes behind it
pub data Ending : Type 0 where
  edge : Ending
  bad : ℕ → Ending
  long : Ending
  after_last : List ℕ → Ending

-- the bytes end within a frame
pub record EndsShort (at : ℕ) (bytes : List ℕ) : Type 0 where
  pub some : bytes ≢ []
  pub part : first bytes ≡ cut
  pub room : at + length bytes < 2 ^ 40

-- no frame begins here, where `at` bytes stand before
abbrev pub EndsAs : ℕ → List ℕ → Ending → Type 0
EndsAs at bytes edge = bytes ≡ []
EndsAs at bytes (bad offset) = (offset ≡ at) × ((first (window at bytes) ≡ wrong) ⊎ EndsShort at bytes)
EndsAs at bytes long = (first (window at bytes) ≡ cut) × (2 ^ 40 ≤ at + length bytes)
EndsAs at bytes (after_last rest) = ⊥

module _ (is_last : List ℕ → Bool) where
  -- the bytes are the frames of these bodies, and then end so
  abbrev pub SplitsInto : ℕ → List ℕ → List (List ℕ) → Ending → Type 0
  SplitsInto at bytes [] e = EndsAs at bytes e
  SplitsInto at bytes (body ∷ bodies) e =
      (n : ℕ) × (first (window at bytes) ≡ whole body n)
      × MatchBool (is_last body) ((bodies ≡ []) × (e ≡ after_last (drop n bytes))) (SplitsInto (at + n) (drop n bytes) bodies e)

  -- these bytes are the frames of these bodies, none of them the last, whatever comes after them
  pub record IsFront (front : List ℕ) (given : List (List ℕ)) : Type 0 where
    pub joins : (rest : List ℕ) (more : List (List ℕ)) (e : Ending) → SplitsInto (length front) rest more e → SplitsInto 0 (front ++ rest) (given ++ more) e
