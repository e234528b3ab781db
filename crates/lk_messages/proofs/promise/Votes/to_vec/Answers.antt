use Rattle.std.proofs.Common.{◌∙◌, ◌+◌, ◌-◌, [], List, Some, ap}
use Rattle.lk_types.specs.declared.vote.Vote.{Vote}
use Rattle.lk_codec.specs.FieldReading.{read_vote}
use Rattle.lk_codec.specs.Parser.{many}
use Rattle.lk_codec.proofs.Spellings.{goes_on, with_front}
use Rattle.lk_messages.proofs.promise.Votes.to_vec.Goals as goal

pub loop-preserved : goal.loop-preserved
loop-preserved c =
    ap (λ (vs : List Vote). with_front vs
    (many read_vote (c.self.inside.count - (c.loop.counter + 1)) c.in-Some.after.now)) c.in_ok-push.ensures.items
    ∙ goes_on read_vote c.loop.list.items c.self.inside.count c.loop.counter c.loop.rest.now c.in-Some.vote
    c.in-Some.after.now (Some (c.args.self.now, [])) c.loop-test.true c.in-Some.ensures.parsed c.loop.invariant
