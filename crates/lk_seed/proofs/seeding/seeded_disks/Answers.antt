use Rattle.lk_seed.proofs.seeding.seeded_disks.Goals as goal

pub returns : goal.returns
returns g c =
    c.into_disks.ensures.left c.args.header.now c.args.wanted.now
    (c.in_ok-raise_all-2.ensures c.args.header.now
    (c.in_ok-raise_all.ensures c.args.header.now
    (c.in_ok-lead.ensures.keeps c.args.header.now c.args.wanted.now (c.in_ok-member.ensures c.args.wanted.now))))
