use Rattle.lk_summed_disk.proofs.parsing.parse.Goals as goal

pub returns-then-begins_plain-clause-damaged : goal.returns-then-begins_plain-clause-damaged
returns-then-begins_plain-clause-damaged c = c.parse_plain.ensures.damaged c.args.side
