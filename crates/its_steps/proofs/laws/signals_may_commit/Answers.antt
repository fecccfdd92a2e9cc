use Rattle.its_steps.proofs.Signals.{hits, hits_off, fills, drops, offs}
use Rattle.its_steps.proofs.laws.signals_may_commit.Goals as goal

pub returns : goal.returns
returns c = record {
  hit = hits;
  hit_off = hits_off;
  fill = fills;
  drop = drops;
  off = offs;
}
