use Rattle.std.proofs.Common.{◌≡◌, drop}
use Rattle.lk_node_events.specs.News.{is_reported}
use Rattle.lk_node_events.proofs.story.is_reported.Given as goal

-- no entry so far is that node
abbrev pub invariant-loop-entry : goal.invariant-loop-entry
invariant-loop-entry l = is_reported l.node (drop l.entry-index l.entries) ≡ is_reported l.node l.entries
