use Rattle.lk_script_lines.specs.Lines.{lines_of}
use Rattle.lk_script.specs.Scripts.{begun}
use Rattle.lk_script.proofs.OutputLaws.{runs_once}
use Rattle.lk_script.proofs.laws.one_output.Goals as goal

pub returns : goal.returns
returns g c =
    λ input a b stop end no_world. runs_once g.R.MemoryReplica.behaves begun 1 (lines_of input) a b stop end no_world
