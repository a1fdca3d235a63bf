use mathlib.Core.List.{List}
use mathlib.Core.Path.{refl, subst}
use Prim.Native.Nat.{ℕ}
use Rattle.cnf.specs.Inner.Appending.{Appends}
use Rattle.obligation.specs.Inner.Appended.{claim_lists}
use Rattle.obligation.specs.Inner.Planned.{parts_in, claimed_in}
use Rattle.obligation.proofs.MakingLaws.{lists_same, clauses-space, gates-space, front-appends, cut_asked, cut-appends, bounded_inputs, limited_inputs, claims-asked, claims-space, last_space, claims-few, all-appends, all-from-start}
use Rattle.obligation.proofs.making.append_all.Goals as goal
use Rattle.obligation.proofs.making.append_all.Goals.{After-append_claims}

claimed : (c : After-append_claims) → Appends (claim_lists (claimed_in c.args.plan.now)) c.append_ands.new.clauses c.append_claims.new.clauses
claimed c =
    subst (λ (ls : List (List ℕ)). Appends ls c.append_ands.new.clauses c.append_claims.new.clauses) (lists_same _ _) c.append_claims.ensures

pub append_predicate-requires : goal.append_predicate-requires
append_predicate-requires c = (bounded_inputs _ c.requires.front _ c.first-inputs.ensures, clauses-space _ c.requires.front _ _ refl c.append_sources.ensures)

pub append_ands-requires : goal.append_ands-requires
append_ands-requires c =
    let h = limited_inputs (parts_in c.args.question.now c.args.plan.now) _ c.first-inputs.ensures _ _ c.append_predicate.ensures in
    cut_asked (parts_in c.args.question.now c.args.plan.now) c.requires.front _ c.first-gates.ensures _ (gates-space _ c.requires.front _ _ refl c.append_sources.ensures _ h)

pub append_claims-requires : goal.append_claims-requires
append_claims-requires c =
    let h = limited_inputs (parts_in c.args.question.now c.args.plan.now) _ c.first-inputs.ensures _ _ c.append_predicate.ensures in
    let g = cut-appends (parts_in c.args.question.now c.args.plan.now) c.requires.front _ c.first-gates.ensures _ _ c.append_ands.ensures in
    let f = front-appends _ c.requires.front _ _ refl c.append_sources.ensures _ h _ g in
    claims-asked _ _ c.requires.claims _ (claims-space _ c.requires.front _ _ refl f)

pub push_single-requires : goal.push_single-requires
push_single-requires c =
    let h = limited_inputs (parts_in c.args.question.now c.args.plan.now) _ c.first-inputs.ensures _ _ c.append_predicate.ensures in
    let g = cut-appends (parts_in c.args.question.now c.args.plan.now) c.requires.front _ c.first-gates.ensures _ _ c.append_ands.ensures in
    let f = front-appends _ c.requires.front _ _ refl c.append_sources.ensures _ h _ g in
    let k = claimed (goal.at.push_single-requires c).After-append_claims in
    (last_space _ c.requires.front _ _ refl f (claimed_in c.args.plan.now) _ k (claims-few _ _ _ c.requires.claims), c.requires.low_last)

pub returns : goal.returns
returns c =
    let h = limited_inputs (parts_in c.args.question.now c.args.plan.now) _ c.first-inputs.ensures _ _ c.append_predicate.ensures in
    let g = cut-appends (parts_in c.args.question.now c.args.plan.now) c.requires.front _ c.first-gates.ensures _ _ c.append_ands.ensures in
    let f = front-appends _ c.requires.front _ _ refl c.append_sources.ensures _ h _ g in
    let k = claimed (goal.at.returns c).After-append_claims in
    let a = all-appends _ c.requires.front _ _ refl f (claimed_in c.args.plan.now) _ k c.args.plan.now.last _ c.push_single.ensures in
    all-from-start _ _ _ a
