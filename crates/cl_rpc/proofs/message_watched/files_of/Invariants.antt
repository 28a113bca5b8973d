use Rattle.std.proofs.Common.{◌≡◌, ◌++◌, drop, option_map}
use Rattle.serde_json.specs.View.{items_view}
use Rattle.cl_rpc.specs.Messages.{watched_paths}
use Rattle.cl_rpc.proofs.message_watched.files_of.Given as goal

-- the files so far and those to come are all
abbrev pub invariant-loop-change : goal.invariant-loop-change
invariant-loop-change l = option_map (λ ps. l.paths ++ ps) (watched_paths (items_view (drop l.change-index l.changes))) ≡ watched_paths (items_view l.changes)
