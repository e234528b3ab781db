use Rattle.std.proofs.Common.{rules}
use Rattle.lk_seed.proofs.MemberLaws.{has_asked}
use Rattle.lk_seed.proofs.sole_member.SoleMember.ask.Goals as goal

pub returns : goal.returns
returns c = record {
  keeps = λ header wanted grant member. c.settle.ensures.keeps header wanted
      (has_asked header wanted c.args.self.now c.request.new.self c.take.new.self c.in_ok-bytes.bytes.items member
      c.request.ensures.same.0 c.request.ensures.same.1 c.request.ensures.same.2
      (c.in_ok-bytes.ensures.spells wanted grant)
      (λ sent whose becomes may. c.in_ok-take.ensures.takes header wanted sent whose becomes (search rules)));
}
