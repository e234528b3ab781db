use Rattle.lk_codec.specs.FieldReading.{read_vote}
use Rattle.lk_codec.specs.Parser.{many}
use Rattle.lk_codec.proofs.Spellings.{goes_on, ends}
use Rattle.lk_store_format.proofs.reading.many_votes.Goals as goal

pub returns-in_default : goal.returns-in_default
returns-in_default c = ends read_vote c.loop.votes.items c.args.count c.loop.counter c.loop.rest.now
    (many read_vote c.args.count c.args.bytes.now) c.loop-test.true c.in_default.ensures.parsed c.loop.invariant

pub loop-preserved : goal.loop-preserved
loop-preserved c =
    rw c.in_ok-push.ensures.items
    (goes_on read_vote c.loop.votes.items c.args.count c.loop.counter c.loop.rest.now c.in-Some.vote
    c.in-Some.after.now (many read_vote c.args.count c.args.bytes.now) c.loop-test.true
    c.in-Some.ensures.parsed c.loop.invariant)
