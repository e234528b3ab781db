use Rattle.lk_inspect.proofs.inspect.inspect_device.Goals as goal

pub returns-in_ok-inspected-in-Some-clause-found : goal.returns-in_ok-inspected-in-Some-clause-found
returns-in_ok-inspected-in-Some-clause-found g c honest = record {
  generation = c.in-Some.live.generation;
  format = c.in-Some.live.format;
  standing = c.in-Some.live.standing;
  shows = rw c.in-Some.is at (c.in_ok-live.ensures.some honest);
  comes_to = c.in_ok-inspected-in-Some.ensures.tells;
}
