use Rattle.compose_layout.proofs.StageLaws.{list_load, list_totals, loaded, turn-can, turn-next}
use Rattle.compose_layout.proofs.StageLaws.{roomy-latches, roomy-operands, roomy-safety, roomy-constraints}
use Rattle.compose_layout.proofs.lay_lists.Goals as goal

pub load_all-latches-requires : goal.load_all-latches-requires
load_all-latches-requires c = search list_load

pub gather-operands-requires : goal.gather-operands-requires
gather-operands-requires c = record { can_gather = turn-can roomy-latches (λ mc. loaded c.load_all-latches.auto.work c.load_all-latches.ensures) c.requires; right_totals = list_totals c.requires }

pub gather-safety-requires : goal.gather-safety-requires
gather-safety-requires c = record {
  can_gather = turn-can roomy-operands (λ mc.
      turn-next roomy-latches (loaded c.load_all-latches.auto.work c.load_all-latches.ensures) c.gather-operands.ensures)
      c.requires;
  right_totals = list_totals c.requires;
}

pub gather-constraints-requires : goal.gather-constraints-requires
gather-constraints-requires c = record {
  can_gather = turn-can roomy-safety (λ mc.
      turn-next roomy-operands
      (turn-next roomy-latches (loaded c.load_all-latches.auto.work c.load_all-latches.ensures) c.gather-operands.ensures)
      c.gather-safety.ensures)
      c.requires;
  right_totals = list_totals c.requires;
}

pub gather-end-requires : goal.gather-end-requires
gather-end-requires c = record {
  can_gather = turn-can roomy-constraints (λ mc.
      turn-next roomy-safety
      (turn-next roomy-operands
      (turn-next roomy-latches (loaded c.load_all-latches.auto.work c.load_all-latches.ensures) c.gather-operands.ensures)
      c.gather-safety.ensures)
      c.gather-constraints.ensures)
      c.requires;
  right_totals = list_totals c.requires;
}

pub returns : goal.returns
returns c =
    λ mc.
    turn-next roomy-constraints
    (turn-next roomy-safety
    (turn-next roomy-operands
    (turn-next roomy-latches (loaded c.load_all-latches.auto.work c.load_all-latches.ensures) c.gather-operands.ensures)
    c.gather-safety.ensures)
    c.gather-constraints.ensures)
    c.gather-end.ensures
