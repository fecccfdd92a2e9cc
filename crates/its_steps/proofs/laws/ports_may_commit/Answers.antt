use Rattle.its_steps.proofs.Ports.{takes, shows, bests, claims, pokes, peeks, dmas, nothings, copies, reads, writes, rises}
use Rattle.its_steps.proofs.Gicr.{confs, rereads, turn_offs, gicrs, turns_off}
use Rattle.its_steps.proofs.Saves.{saves}
use Rattle.its_steps.proofs.laws.ports_may_commit.Goals as goal

pub returns : goal.returns
returns c = record {
  take = takes;
  show = shows;
  best = bests;
  claim = claims;
  poke = pokes;
  peek = peeks;
  dma = dmas;
  nothing = nothings;
  copy = copies;
  conf = confs;
  reread = rereads;
  turn_off = turn_offs;
  gicr = gicrs;
  off = turns_off;
  read = reads;
  write = writes;
  rise = rises;
  save = saves;
}
