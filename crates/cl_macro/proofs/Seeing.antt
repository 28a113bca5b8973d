-- Scans that look at the tokens alone.
use Rattle.std.proofs.Common.{◌≡◌, ℕ, ◌+◌, ◌-◌, ◌≤◌, true, false, List, length, drop, take, Option, Some, None, refl, sym, subst}
use Rattle.std.specs.List.{slice_get}
use Rattle.std.specs.Option.{option_map}
use Rattle.cl_base.specs.declared.token.PpToken.{PpToken}
use Rattle.cl_macro.specs.declared.word.Word.{Word}
use Rattle.cl_macro.specs.Expansions.{token_of}
use Rattle.cl_macro.specs.Turns.{close_at, ends, parts, depth_after, parted}
use Rattle.cl_macro.specs.Words.{fresh}
use Rattle.cl_macro.proofs.Scans.{Skips, Counts, skips_on, skips_found, skips_end, counts_on, counts_part, counts_end}

pub some_word : (o : Option Word) (t : PpToken) → Some t ≡ option_map token_of o → (w : Word) × (o ≡ Some w) × (w.token ≡ t)
some_word None t e = cc
some_word (Some w) t e = (w, refl, cc)

no_word : (o : Option Word) → None ≡ option_map token_of o → o ≡ None
no_word None e = refl
no_word (Some w) e = cc

pub skips_seen : (all : List Word) (i depth : ℕ) (t : PpToken) → Some t ≡ option_map token_of (slice_get all i) → ends (fresh t) depth ≡ false
    → depth_after (fresh t) depth ≤ depth + 1 → Skips all i depth → Skips all (i + 1) (depth_after (fresh t) depth)
skips_seen all i depth t g e k s = let f = some_word (slice_get all i) t g in
    subst (λ (u : PpToken). ends (fresh u) depth ≡ false → depth_after (fresh u) depth ≤ depth + 1 → Skips all (i + 1) (depth_after (fresh u) depth)) f.2
    (λ e k. skips_on all i depth f.0 f.1 e k s) e k

pub skips_met : (all : List Word) (i depth : ℕ) (t : PpToken) → Some t ≡ option_map token_of (slice_get all i) → ends (fresh t) depth ≡ true → Skips all i depth
    → Some (i - 1) ≡ close_at 0 (drop 1 all)
skips_met all i depth t g e s = let f = some_word (slice_get all i) t g in
    skips_found all i depth f.0 f.1 (subst (λ (u : PpToken). ends (fresh u) depth ≡ true) (sym f.2) e) s

pub skips_out : (all : List Word) (i depth : ℕ) → None ≡ option_map token_of (slice_get all i) → Skips all i depth → None ≡ close_at 0 (drop 1 all)
skips_out all i depth g s = skips_end all i depth (no_word (slice_get all i) g) s

pub counts_parted : (all : List Word) (count most i depth commas args : ℕ) (t : PpToken) → Some t ≡ option_map token_of (slice_get all i) → parts (fresh t) depth commas ≡ true → i ≤ count
    → Counts all count most i depth commas args → Counts all count most (i + 1) depth (commas - 1) (args + 1)
counts_parted all count most i depth commas args t g e h s = let f = some_word (slice_get all i) t g in
    counts_part all count most i depth commas args f.0 f.1 (subst (λ (u : PpToken). parts (fresh u) depth commas ≡ true) (sym f.2) e) h s

pub counts_seen : (all : List Word) (count most i depth commas args : ℕ) (t : PpToken) → Some t ≡ option_map token_of (slice_get all i) → parts (fresh t) depth commas ≡ false → i ≤ count
    → depth_after (fresh t) depth ≤ depth + 1
    → Counts all count most i depth commas args → Counts all count most (i + 1) (depth_after (fresh t) depth) commas args
counts_seen all count most i depth commas args t g e h k s = let f = some_word (slice_get all i) t g in
    subst (λ (u : PpToken). parts (fresh u) depth commas ≡ false → depth_after (fresh u) depth ≤ depth + 1 → Counts all count most (i + 1) (depth_after (fresh u) depth) commas args) f.2
    (λ e k. counts_on all count most i depth commas args f.0 f.1 e h k s) e k

pub counts_out : (all : List Word) (count most i depth commas args : ℕ) → None ≡ option_map token_of (slice_get all i) → Counts all count most i depth commas args
    → args ≡ length (parted 0 most (take count (drop 1 all)))
counts_out all count most i depth commas args g s = counts_end all count most i depth commas args (no_word (slice_get all i) g) s
