use Rattle.scope_map.specs.Hashes.{hash_of}
use Rattle.scope_map.specs.Places.{up_to}
use Rattle.scope_map.proofs.Sought.{IsSought}
use Rattle.scope_map.proofs.table.ScopeMap.get_between.Given as goal

abbrev pub invariant-loop-next : goal.invariant-loop-next
invariant-loop-next g l = IsSought g.K.PartialEq.eq (λ key. hash_of (g.K.Hash.hash_input key)) l.self-inside.pairs.items l.mark l.end l.key l.next

abbrev pub decreases-loop-next : goal.decreases-loop-next
decreases-loop-next g l = up_to l.next
