-- What an expansion gains as the run is gone over.
use Rattle.std.proofs.Common.{◌≡◌, ℕ, ◌≤◌, ◌<◌, Bool, true, false, List, [], ◌∷◌, ◌++◌, length, map, take, Option, None, refl, sym, ap, subst, ◌∙◌, arith, append_assoc, suc}
use Rattle.std.specs.Prelude.{if◌then◌else◌}
use Rattle.cl_base.specs.declared.macros.Macro.{Macro}
use Rattle.cl_base.specs.declared.macros.MacroNo.{MacroNo}
use Rattle.cl_base.specs.declared.token.PpToken.{PpToken}
use Rattle.cl_base.specs.declared.token.Span.{Span}
use Rattle.cl_macro.specs.Rules.{Rules}
use Rattle.cl_macro.specs.declared.expanded.Expanded.{Expanded}
use Rattle.cl_macro.specs.declared.level.Level.{Level}
use Rattle.cl_macro.specs.declared.note.Note.{Note}
use Rattle.cl_macro.specs.declared.note.Note.TheVariants as note
use Rattle.cl_macro.specs.declared.note.Told.{Told}
use Rattle.cl_macro.specs.declared.word.Word.{Word}
use Rattle.cl_macro.specs.Words.{fresh, is_ident, looks}
use Rattle.cl_macro.specs.Turns.{Invokes, turn, stay_notes}
use Rattle.cl_macro.specs.Replacing.{Works, Expands, stays, done, end, replacements, settled, settled_word, span_of, all_told}
use Rattle.cl_macro.specs.Expansions.{IsExpansion, token_of, fault_by, faults_of, look_by, looks_of, use_by, uses_of}
use Rattle.cl_macro.specs.Levels.{ahead, rest_of, Passes}
use Rattle.cl_macro.specs.code.Gaining.{Keeps, Tells}
use Rattle.cl_macro.proofs.Expanding.{Gone, gone_none, gone_whole, gone_stay}
use Rattle.cl_macro.proofs.Plain.{plain_stays}
use Rattle.cl_macro.proofs.Standing.{looks_zero, replacements_more}
use Rattle.cl_macro.proofs.Walking.{append_nil}

faults_more : (a b : List Told) → faults_of (a ++ b) ≡ faults_of a ++ faults_of b
faults_more [] b = refl
faults_more (t ∷ a) b = ap (λ xs. fault_by t ++ xs) (faults_more a b) ∙ sym (append_assoc (fault_by t) (faults_of a) (faults_of b))

looks_more : (a b : List Told) → looks_of (a ++ b) ≡ looks_of a ++ looks_of b
looks_more [] b = refl
looks_more (t ∷ a) b = ap (λ xs. look_by t ++ xs) (looks_more a b) ∙ sym (append_assoc (look_by t) (looks_of a) (looks_of b))

uses_more : (events : List ℕ → Option MacroNo) (a b : List Told) → uses_of events (a ++ b) ≡ uses_of events a ++ uses_of events b
uses_more events [] b = refl
uses_more events (t ∷ a) b = ap (λ xs. use_by events t ++ xs) (uses_more events a b) ∙ sym (append_assoc (use_by events t) (uses_of events a) (uses_of events b))

tokens_more : (a b : List Word) → map token_of (a ++ b) ≡ map token_of a ++ map token_of b
tokens_more [] b = refl
tokens_more (w ∷ a) b = ap (λ ts. w.token ∷ ts) (tokens_more a b)

tokens_long : (ws : List Word) → length (map token_of ws) ≡ length ws
tokens_long [] = refl
tokens_long (w ∷ ws) = ap suc (tokens_long ws)

pub tells_none : (events : List ℕ → Option MacroNo) (all : Expanded) → Tells events [] all all
tells_none events all = record { tokens = refl; faults = sym (append_nil all.faults); looked = sym (append_nil all.looked); uses = sym (append_nil all.uses) }

pub tells_then : (events : List ℕ → Option MacroNo) (a b : List Told) (x y z : Expanded) → Tells events a x y → Tells events b y z → Tells events (a ++ b) x z
tells_then events a b x y z p q = record {
  tokens = q.tokens ∙ p.tokens;
  faults = q.faults ∙ ap (λ xs. xs ++ faults_of b) p.faults ∙ append_assoc x.faults (faults_of a) (faults_of b) ∙ ap (λ xs. x.faults ++ xs) (sym (faults_more a b));
  looked = q.looked ∙ ap (λ xs. xs ++ looks_of b) p.looked ∙ append_assoc x.looked (looks_of a) (looks_of b) ∙ ap (λ xs. x.looked ++ xs) (sym (looks_more a b));
  uses = q.uses ∙ ap (λ xs. xs ++ uses_of events b) p.uses ∙ append_assoc x.uses (uses_of events a) (uses_of events b) ∙ ap (λ xs. x.uses ++ xs) (sym (uses_more events a b));
}

plain_faults : (b : Bool) (name : List ℕ) (before : ℕ) (at : Span) → faults_of (all_told before at ((if b then note.Looked name ∷ [] else []) ++ [])) ≡ []
plain_faults true name before at = refl
plain_faults false name before at = refl

plain_looks : (b : Bool) (name : List ℕ) (before : ℕ) (at : Span) → looks_of (all_told before at ((if b then note.Looked name ∷ [] else []) ++ [])) ≡ (if b then name ∷ [] else [])
plain_looks true name before at = refl
plain_looks false name before at = refl

plain_uses : (events : List ℕ → Option MacroNo) (b : Bool) (name : List ℕ) (before : ℕ) (at : Span) → uses_of events (all_told before at ((if b then note.Looked name ∷ [] else []) ++ [])) ≡ []
plain_uses events true name before at = refl
plain_uses events false name before at = refl

module _ (rules_at : Span → Rules) (events : List ℕ → Option MacroNo) where
  -- what has been gained so far, where these tokens are left
  pub record Got (run : List PpToken) (all : Expanded) (rest : List PpToken) : Type 0 where
    pub words : List Word
    pub told : List Told
    pub gone : Gone rules_at (map fresh run) words told (map fresh rest)
    pub tokens : all.tokens ≡ map token_of words
    pub faults : all.faults ≡ faults_of told
    pub looked : all.looked ≡ looks_of told
    pub uses : all.uses ≡ uses_of events told

  pub got_none : (run : List PpToken) (all : Expanded) → all ≡ record { tokens = []; faults = []; looked = []; uses = [] } → Got run all run
  got_none run all e = subst (λ (x : Expanded). Got run x run) (sym e)
      (record { words = []; told = []; gone = gone_none rules_at (map fresh run) [] [] refl refl; tokens = refl; faults = refl; looked = refl; uses = refl })

  got_more : (run rest left : List PpToken) (all mid all2 : Expanded) (words : List Word) (told : List Told) (g : Got run all rest)
      → Gone rules_at (map fresh run) (g.words ++ words) (g.told ++ told) (map fresh left)
      → mid.tokens ≡ all.tokens ++ map token_of words → mid.faults ≡ all.faults → mid.looked ≡ all.looked → mid.uses ≡ all.uses
      → Tells events told mid all2 → Got run all2 left
  got_more run rest left all mid all2 words told g k et ef el eu t = record {
    words = g.words ++ words;
    told = g.told ++ told;
    gone = k;
    tokens = t.tokens ∙ et ∙ ap (λ ts. ts ++ map token_of words) g.tokens ∙ sym (tokens_more g.words words);
    faults = t.faults ∙ ap (λ xs. xs ++ faults_of told) (ef ∙ g.faults) ∙ sym (faults_more g.told told);
    looked = t.looked ∙ ap (λ xs. xs ++ looks_of told) (el ∙ g.looked) ∙ sym (looks_more g.told told);
    uses = t.uses ∙ ap (λ xs. xs ++ uses_of events told) (eu ∙ g.uses) ∙ sym (uses_more events g.told told);
  }

  -- a token that no macro has as its name
  pub got_kept : (run rest behind : List PpToken) (all all2 : Expanded) (t : PpToken) → Got run all rest → rest ≡ t ∷ behind
      → (is_ident t.kind ≡ true → (rules_at t.at).macros t.text ≡ None) → Keeps t all all2 → Got run all2 behind
  got_kept run rest behind all all2 t g e p k =
      let w = fresh t in
      let ns = looks w ++ [] in
      let ts = all_told (length g.words) (span_of w ns) ns in
      let mid : Expanded = record { tokens = all2.tokens; faults = all.faults; looked = all.looked; uses = all.uses } in
      got_more run rest behind all mid all2 (settled w ns (w ∷ [])) ts g
      (gone_whole rules_at (map fresh run) (map fresh rest) g.words g.told w (map fresh behind) (w ∷ []) (map fresh behind) _ ns _ g.gone (ap (map fresh) e)
      (stays w [] (map fresh behind) [] (map fresh behind) [] (plain_stays (rules_at t.at).macros t (map fresh behind) p) (done (map fresh behind)))
      (let z = looks_zero w in let k = replacements_more (looks w) [] in omega arith) refl refl)
      k.tokens refl refl refl
      (record {
        tokens = refl;
        faults = k.faults ∙ sym (append_nil all.faults) ∙ ap (λ xs. all.faults ++ xs) (sym (plain_faults (is_ident t.kind) t.text (length g.words) (span_of w ns)));
        looked = k.looked ∙ ap (λ xs. all.looked ++ xs) (sym (plain_looks (is_ident t.kind) t.text (length g.words) (span_of w ns)));
        uses = k.uses ∙ sym (append_nil all.uses) ∙ ap (λ xs. all.uses ++ xs) (sym (plain_uses events (is_ident t.kind) t.text (length g.words) (span_of w ns)));
      })

  got_before : (run rest : List PpToken) (all : Expanded) (before : ℕ) (g : Got run all rest) → before ≡ length all.tokens → before ≡ length g.words
  got_before run rest all before g e = e ∙ ap length g.tokens ∙ tokens_long g.words

  -- an outermost invocation, or a name that isn't invoked
  pub got_whole : (run rest behind left : List PpToken) (all mid all2 : Expanded) (t : PpToken) (out : List Word) (ns : List Note) (at : Span) (before : ℕ)
      → Got run all rest → rest ≡ t ∷ behind → Works (rules_at t.at) (fresh t ∷ []) (map fresh behind) out (map fresh left) ns → replacements ns ≤ 65535
      → at ≡ span_of (fresh t) ns → before ≡ length all.tokens
      → mid.tokens ≡ all.tokens ++ map token_of (map (settled_word at) out) → mid.faults ≡ all.faults → mid.looked ≡ all.looked → mid.uses ≡ all.uses
      → Tells events (all_told before at ns) mid all2 → Got run all2 left
  got_whole run rest behind left all mid all2 t out ns at before g e d s ea eb et ef el eu k =
      let n = got_before run rest all before g eb in
      got_more run rest left all mid all2 (settled (fresh t) ns out) (all_told (length g.words) (span_of (fresh t) ns) ns) g
      (gone_whole rules_at (map fresh run) (map fresh rest) g.words g.told (fresh t) (map fresh behind) out (map fresh left) _ ns _ g.gone (ap (map fresh) e) d s refl refl)
      (et ∙ ap (λ (a : Span). all.tokens ++ map token_of (map (settled_word a) out)) ea) ef el eu
      (subst (λ (b : ℕ). Tells events (all_told b (span_of (fresh t) ns) ns) mid all2) n (subst (λ (a : Span). Tells events (all_told before a ns) mid all2) ea k))

  -- an invocation that is too large
  pub got_stay : (run rest behind : List PpToken) (all mid all2 : Expanded) (t : PpToken) (w : Word) (m : Macro) (taken : List Word) (count : ℕ) (level level2 : Level) (notes : List Note) (before : ℕ)
      → Got run all rest → rest ≡ t ∷ behind → w ≡ fresh t → level.work ≡ [] → rest_of level ≡ map fresh behind → level.out ≡ []
      → turn (rules_at t.at).macros (fresh t) (map fresh behind) ≡ Invokes m taken → taken ≡ take count (ahead level) → count ≤ length (ahead level)
      → ((out left : List Word) (ns : List Note) → Works (rules_at t.at) (fresh t ∷ []) (map fresh behind) out left ns → 65535 < replacements ns)
      → Passes count level level2 → level2.out ≡ level.out ++ w ∷ take count (ahead level)
      → notes ≡ [] ++ stay_notes 17 w (take count (ahead level)) → before ≡ length all.tokens
      → mid.tokens ≡ all.tokens ++ map token_of level2.out → mid.faults ≡ all.faults → mid.looked ≡ all.looked → mid.uses ≡ all.uses
      → Tells events (all_told before t.at notes) mid all2 → Got run all2 level2.rest.now
  got_stay run rest behind all mid all2 t w m taken count level level2 notes before g e ew lw lr lo tt tk h big p eo en eb et ef el eu k =
      let n = got_before run rest all before g eb in
      got_more run rest level2.rest.now all mid all2 level2.out (all_told (length g.words) t.at notes) g
      (gone_stay rules_at (map fresh run) (map fresh rest) g.words g.told (fresh t) w m (map fresh behind) taken count level level2 _ notes _ g.gone (ap (map fresh) e)
      ew lw lr lo tt tk h big p eo refl en refl)
      et ef el eu (subst (λ (b : ℕ). Tells events (all_told b t.at notes) mid all2) n k)

  pub got_all : (run : List PpToken) (all : Expanded) → Got run all [] → IsExpansion rules_at events run all
  got_all run all g = record {
    words = g.words;
    told = g.told;
    expands = subst (λ (ts : List Told). Expands rules_at 0 (map fresh run) g.words ts) (append_nil g.told)
        (subst (λ (ws : List Word). Expands rules_at 0 (map fresh run) ws (g.told ++ [])) (append_nil g.words) (g.gone.goes [] [] (end (length g.words))));
    tokens = g.tokens;
    faults = g.faults;
    looked = g.looked;
    uses = g.uses;
  }
