use Rattle.std.proofs.Common.{◌≡◌, ℕ, ◌<◌, ◌+◌, ◌≤◌, Option, Some, None, false, ap, arith, drop, length, refl, subst, sym, take, ◌∙◌}
use Rattle.std.specs.Prelude.{slice_get}
use Rattle.std.proofs.lemmas.Option.{slice_get_read}
use Rattle.scope_map.specs.Hashes.{hash_of}
use Rattle.scope_map.specs.Places.{IsLastOf}
use Rattle.scope_map.specs.Scopes.{latest}
use Rattle.scope_map.proofs.Sought.{IsSought, begun, gone_on, not_there, there}
use Rattle.scope_map.proofs.table.ScopeMap.get_between.Goals as goal
use Rattle.scope_map.proofs.table.ScopeMap.get_between.Goals.{else-place-end-via-then-place-end+else-eq, else-place-end-via-else-place-end}

pub loop-next-init : goal.loop-next-init
loop-next-init g c =
    begun g.K.PartialEq.eq (λ key. hash_of (g.K.Hash.hash_input key)) (λ x y e. ap hash_of (g.met.K.Hash.respects_eq x y e)) c.self.inside.pairs.items c.args.mark c.args.end c.args.key.now
    c.self.inside.hashes c.last_of-next.result c.self.invariant
    (subst (λ (number : ℕ). IsLastOf (slice_get c.self.inside.hashes) number (length c.self.inside.hashes) c.last_of-next.result) c.hash_of.ensures c.last_of-next.ensures)

pub returns-then-place-mark : goal.returns-then-place-mark
returns-then-place-mark g c =
    let at = subst (λ (next : Option ℕ). IsSought g.K.PartialEq.eq (λ key. hash_of (g.K.Hash.hash_input key)) c.self.inside.pairs.items c.args.mark c.args.end c.args.key.now next) c.in-Some.is c.loop-next.invariant in
    let le : c.in-Some.place + 1 ≤ c.args.mark = omega (arith, c.if-place-mark.true) in
    sym (not_there g.K.PartialEq.eq (λ key. hash_of (g.K.Hash.hash_input key)) (λ x y e. ap hash_of (g.met.K.Hash.respects_eq x y e)) c.self.inside.pairs.items c.args.mark c.args.end c.args.key.now
    (Some c.in-Some.place) le at)
    ∙ ap (λ pairs. latest g.K.PartialEq.eq (drop c.args.mark (take c.args.end pairs)) c.args.key.now) c.self.view_is

pub returns-then-eq : goal.returns-then-eq
returns-then-eq g c =
    let at = subst (λ (next : Option ℕ). IsSought g.K.PartialEq.eq (λ key. hash_of (g.K.Hash.hash_input key)) c.self.inside.pairs.items c.args.mark c.args.end c.args.key.now next) c.in-Some.is c.loop-next.invariant in
    let within : c.in-Some.place < length c.self.inside.pairs.items = omega (arith, at.within) in
    let read = slice_get_read c.self.inside.pairs.items (length c.self.inside.pairs.items) c.in-Some.place c.index-pair.result.now refl within c.index-pair.ensures in
    sym (there g.K.PartialEq.eq (λ key. hash_of (g.K.Hash.hash_input key)) (λ x y e. ap hash_of (g.met.K.Hash.respects_eq x y e)) c.self.inside.pairs.items c.args.mark c.args.end c.args.key.now
    c.in-Some.place c.index-pair.result.now c.if-place-mark.false c.if-place-end.true read (sym c.eq.ensures ∙ c.if-eq.true) at)
    ∙ ap (λ pairs. latest g.K.PartialEq.eq (drop c.args.mark (take c.args.end pairs)) c.args.key.now) c.self.view_is

pub loop-next-preserved : goal.loop-next-preserved
loop-next-preserved g c =
    let at = subst (λ (next : Option ℕ). IsSought g.K.PartialEq.eq (λ key. hash_of (g.K.Hash.hash_input key)) c.self.inside.pairs.items c.args.mark c.args.end c.args.key.now next) c.in-Some.is c.loop-next.invariant in
    let within : c.in-Some.place < length c.self.inside.pairs.items = omega (arith, at.within) in
    let read = slice_get_read c.self.inside.pairs.items (length c.self.inside.pairs.items) c.in-Some.place c.index-pair.result.now refl within c.index-pair.ensures in
    let other : c.in-Some.place < c.args.end → g.K.PartialEq.eq c.index-pair.result.now.0 c.args.key.now ≡ false = λ lt. elim c.else-place-end.branch [
      | else-place-end-via-then-place-end+else-eq w ↦ sym w.eq.ensures ∙ w.if-eq.false
      | else-place-end-via-else-place-end w ↦ absurd (omega (arith, w.if-place-end.false, lt))
    ] in
    gone_on g.K.PartialEq.eq (λ key. hash_of (g.K.Hash.hash_input key)) (λ x y e. ap hash_of (g.met.K.Hash.respects_eq x y e)) c.self.inside.pairs.items c.args.mark c.args.end c.args.key.now
    c.self.inside.hashes c.in-Some.place c.index-pair.result.now c.last_before-next.result c.self.invariant read other c.last_before-next.ensures at

pub returns : goal.returns
returns g c =
    let at = subst (λ (next : Option ℕ). IsSought g.K.PartialEq.eq (λ key. hash_of (g.K.Hash.hash_input key)) c.self.inside.pairs.items c.args.mark c.args.end c.args.key.now next) c.in_default.is c.loop-next.invariant in
    sym (not_there g.K.PartialEq.eq (λ key. hash_of (g.K.Hash.hash_input key)) (λ x y e. ap hash_of (g.met.K.Hash.respects_eq x y e)) c.self.inside.pairs.items c.args.mark c.args.end c.args.key.now
    None (omega arith) at)
    ∙ ap (λ pairs. latest g.K.PartialEq.eq (drop c.args.mark (take c.args.end pairs)) c.args.key.now) c.self.view_is
