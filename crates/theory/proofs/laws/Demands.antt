-- Demands 2 and 3 of the definitions, what the two operations beside them owe, what kinds 3, 9, 10 and 11 count, and idle times in one walk.
use lib.ListN.{take}
use Rattle.scope.specs.Kinds.{group_at}
use Rattle.scope.specs.Demands.{Demand2, Demand3, DemandHard, DemandBest, DemandLengths, DemandPreferred, DemandPrecedence, DemandIdle}
use Rattle.theory.proofs.laws.Match as match
use Rattle.theory.proofs.laws.Bounded.{bounded-model}
use Rattle.theory.proofs.laws.Never as bound
use Rattle.theory.proofs.laws.Subevents.{distribute-counts, lengths-counts}
use Rattle.theory.proofs.laws.LengthLists.{of-length-listed, outside-listed}
use Rattle.theory.proofs.laws.ReachLists.{length-from-outside, few-nodes, single-nodes}
use Rattle.theory.proofs.laws.Held.{times-charged, lengths-charged}
use Rattle.theory.proofs.laws.GapLists.{length-gap-member, gap-variables, gap-alone, gap-few}
use Rattle.theory.proofs.laws.Gap.{precedence-charged, accepted-taken}
use Rattle.theory.proofs.laws.IdleWalk.{kept-idle, kept_counted, idle-charged, kept-by-calls}

pub demand2 : Demand2
demand2 = match.demand2

pub demand3 : Demand3
demand3 = bound.demand3 (λ file i B t cost a. bounded-model file i a B t cost)

pub demand_hard : DemandHard
demand_hard = bound.demand-hard (λ file i B t cost a. bounded-model file i a B t cost) demand2

pub demand_best : DemandBest
demand_best = bound.demand-best (λ file i B t cost a. bounded-model file i a B t cost) demand2

pub demand_lengths : DemandLengths
demand_lengths =
    record { of_length_lem = distribute-counts; outside = lengths-counts; list = of-length-listed; list_outside = outside-listed }

pub demand_preferred : DemandPreferred
demand_preferred =
    record { times = times-charged; lengths = lengths-charged; variables = few-nodes; members = length-from-outside; single = single-nodes }

pub demand_precedence : DemandPrecedence
demand_precedence =
    record {
      gap = precedence-charged;
      taken = accepted-taken;
      member = length-gap-member;
      variables = gap-variables;
      alone = gap-alone;
      few = gap-few;
    }

pub demand_idle : DemandIdle
demand_idle =
    record {
      each_member = λ xs k. kept-idle (take k xs);
      counted = λ i τ r g k. kept_counted τ r k (group_at i.groups g);
      charge = idle-charged;
      calls = kept-by-calls;
    }
