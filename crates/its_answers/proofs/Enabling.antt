-- LPIs follow their enabling in the histories that are printed.
use Rattle.std.specs.Prelude.{List}
use Rattle.its_plain.specs.Plain.{Plain}
use Rattle.its_plain.specs.Runs.{IsRun, IsPartialRun}
use Rattle.its_plain.specs.declared.call.Entry.{Entry}
use Rattle.lpi_enabling.proofs.Runs.{runs_follow, partial_runs_follow}
use Rattle.lpi_enabling.proofs.Start.{start_off}
use Rattle.event_script.specs.declared.script.Script.{Script}
use Rattle.its_answers.specs.Its.{LpisFollow}

pub run_lpis : (script : Script) (first : Plain) (histories : List (List Entry)) → IsRun first script.legs histories → LpisFollow script first histories
run_lpis script first histories run starts off = runs_follow first script.legs histories (start_off script.desc first starts off) run

pub partial_lpis : (script : Script) (first : Plain) (histories : List (List Entry)) → IsPartialRun first script.legs histories
    → LpisFollow script first histories
partial_lpis script first histories partial starts off = partial_runs_follow first script.legs histories (start_off script.desc first starts off) partial
