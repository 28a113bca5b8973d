-- How the requests that wait are found.
use Rattle.std.specs.Prelude.{◌≡◌, ◌++◌, ◌∷◌, ℕ, List, [], map, filter, Option, option_map, option_to_list, unwrap_or}
use Rattle.std.specs.List.{AllByRecursion}
use Rattle.std.specs.Str.{bytes_eq}
use Rattle.std.specs.Ordering.{nat_cmp, int_cmp}
use Rattle.std.specs.Cmp.Lexicographic.{slice_cmp}
use Rattle.std.specs.BTreeMap.{BTreeMap, IsOrdered, get, get_by, values}
use Rattle.std.specs.BTreeSet.{BTreeSet}
use Rattle.cl_rpc.specs.declared.id.Id.{Id}
use Rattle.cl_rpc.specs.declared.id.Id.TheVariants as id
use Rattle.cl_rpc.specs.Classes.{same_id}
use Rattle.cl_pending.specs.declared.index.Ids.{Ids}
use Rattle.cl_pending.specs.declared.index.Documents.{Documents}
use Rattle.cl_pending.specs.Keys.{Key}
use Rattle.cl_pending.specs.Meant.{number_by}

-- the message under an id
abbrev pub message_by : Ids → Id → Option ℕ
message_by ids (id.Number n) = get int_cmp ids.numbers n
message_by ids (id.Text text) = get_by (λ k. slice_cmp nat_cmp text k.items) ids.texts

-- the messages on a document, in order
abbrev pub messages_on : Documents → List ℕ → List ℕ
messages_on documents path = unwrap_or (option_map (λ (s : BTreeSet ℕ). s.keys) (get (slice_cmp nat_cmp) documents.groups path)) []

-- each request that waits stands at its message's number, in order, and the indexes name just those that wait
pub record IsIndexed {W : Type 0} (key : W → Key) (waiting : BTreeMap ℕ W) (ids : Ids) (documents : Documents) : Type 0 where
  pub ordered : IsOrdered nat_cmp waiting
  pub keyed : AllByRecursion (λ (e : ℕ × W). e.0 ≡ (key e.1).message) waiting.entries
  pub by_id : (i : Id) → option_to_list (message_by ids i) ≡ map (number_by key) (filter (λ w. same_id i (key w).id) (values waiting))
  pub by_document : (path : List ℕ) → messages_on documents path ≡ map (number_by key) (filter (λ w. bytes_eq (key w).path path) (values waiting))

-- the requests at these numbers
abbrev pub found_in : {W : Type 0} → BTreeMap ℕ W → List ℕ → List W
found_in waiting [] = []
found_in waiting (n ∷ ns) = option_to_list (get nat_cmp waiting n) ++ found_in waiting ns
