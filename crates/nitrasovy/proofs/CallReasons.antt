-- Which of R9's numbers each call can answer.
use Rattle.std.specs.Prelude.{Option, Some, None}
use Prim.Native.Nat.{ℕ, ◌+◌, ◌*◌, ◌^◌}
use mathlib.Core.Bool.{Bool, true, false, ◌&&◌}
use mathlib.Core.List.{List, [], ◌∷◌}
use mathlib.Core.Path.{refl}
use lib.Dec.{eqb, leb, ltb}
use lib.ListN.{length, drop}
use Rattle.lists.specs.Answer.{got}
use Rattle.lists.specs.Parts.{Bytes}
use Rattle.lists.specs.Tests.{all}
use Rattle.lists.specs.Words.{in_order}
use Rattle.text.specs.declared.Reader.TheVariants.{Transition, Witness}
use Rattle.text.specs.Lines.{lines_of}
use Rattle.text.specs.Texts.{limited, good_text}
use Rattle.circuit_lines.specs.SectionLines.{first_numbers}
use Rattle.model.specs.declared.AigerTransition.{AigerTransition}
use Rattle.model.specs.declared.Counts.{Counts}
use Rattle.model.specs.Circuit.{circuit_of}
use Rattle.model.specs.Limits.{counted, well_defined}
use Rattle.model.specs.Checked.{counts_of, checked}
use Rattle.model_text.specs.Header as model_header
use Rattle.model_read.specs.Reading as transition
use Rattle.model_read.specs.Reading.{read_transition}
use Rattle.model_step.specs.Step.{step_values, outcome_under, step_of}
use Rattle.obligation_spec.specs.Limits.{bounded, is_state, states_claimed, outcomes_claimed}
use Rattle.obligation_spec.specs.Lists.{outcomes_of, relation_clauses, transducer_clauses, terminal_clauses}
use Rattle.obligation_spec.specs.Calls.{Asked, Lent, predicate, asked, within, relation_row, transducer_row, terminal_list}
use Rattle.cnf.specs.Clauses.{Clause, literals_of}
use Rattle.witness_text.specs.declared.AagCounts.{AagCounts}
use Rattle.witness_text.specs.Header as witness_header
use Rattle.witness_read.specs.Names.{tail_of, named_once, symbols_of}
use Rattle.witness_read.proofs.TailLaws.{tail-only}
use Rattle.witness_read.specs.Comments.{plain_comments}
use Rattle.witness_read.specs.Order.{body_of, well_numbered}
use Rattle.witness_read.specs.Sections.{Sections}
use Rattle.witness_read.specs.Reading.{sections_from, sections_of, read_aag}
use Rattle.compose_spec.specs.Numbering.{leaf_count}
use Rattle.compose_spec.specs.Composing.{maps_right, composed_gates, whole, gates_fit, all_defined, agree, safety, is_some, composed, compose}
use Rattle.compose_spec.specs.Printing.{printed}
use Rattle.compose_spec.specs.Calling.{read_all, sizes, texts_in, compose_call}
use Rattle.nitrasovy.specs.Reasons.{read_reasons, step_reasons, made_reasons, witness_reasons, compose_reasons, Among}
use Rattle.nitrasovy.proofs.ReasonLaws.{Has, among-got, among-refused, among-unless, among-only, among_then, sections-among, body-among}

-- ---- the transition reader

five_counts_lem : (ns : Option (List ℕ)) → Among read_reasons (model_header.five_counts ns)
five_counts_lem None = among-refused read_reasons 4 refl
five_counts_lem (Some ns) = among-unless read_reasons 4 (eqb (length ns) 5) (got (model_header.counts_from ns)) refl (among-got read_reasons _)

after_header_lem : (g w : ℕ) (ls : List Bytes) (n : Counts) → Among read_reasons (transition.body_of g w ls n)
after_header_lem g w ls n =
    among-unless read_reasons 5 (counted n) _ refl
    (among-unless read_reasons 7 (leb (3 * n.ands) g) _ refl
    (among-unless read_reasons 7 (ltb n.max_variable w) _ refl
    (among_then read_reasons _ _ (sections-among read_reasons refl n ls) (λ c. among-unless read_reasons 11 (well_defined c) (got c) refl (among-got read_reasons _)))))

pub read_among : (t : Bytes) (g w : ℕ) → Among read_reasons (read_transition t g w)
unfolding read_transition
read_among t g w =
    among-unless read_reasons 3 (good_text limited Transition t) _ refl
    (among_then read_reasons _ _ (five_counts_lem (first_numbers Transition (lines_of t))) (after_header_lem g w (drop 1 (lines_of t))))

-- ---- the step and the obligations

module _ (reasons : List ℕ) (seven : Has reasons 7) (eleven : Has reasons 11) where
  checked-among : (m : AigerTransition) (g : List ℕ) (w : ℕ) → Among reasons (checked m g w)
  unfolding checked
  checked-among m g w =
      among-unless reasons 7 (ltb m.max_variable w) _ seven
      (among-unless reasons 11 (counted (counts_of m)) _ eleven
      (among-unless reasons 11 (leb m.input_count (length m.inputs)) _ eleven
      (among-unless reasons 11 (leb m.output_count (length m.outputs)) _ eleven
      (among-unless reasons 11 (leb (3 * m.and_count) (length g)) _ eleven
      (among-unless reasons 11 (well_defined (circuit_of m g)) _ eleven (among-got reasons (circuit_of m g)))))))

pub step-among : (m : AigerTransition) (g : List ℕ) (w s x : ℕ) → Among step_reasons (step_of m g w s x)
unfolding step_of
step-among m g w s x =
    among_then step_reasons (checked m g w) _ (checked-among step_reasons refl refl m g w) (λ c.
    among-unless step_reasons 12 (ltb s (2 ^ length c.latches)) _ refl
    (among-unless step_reasons 12 (ltb x (2 ^ length c.inputs)) _ refl (among-got step_reasons (outcome_under c (step_values c s x)))))

asked-among : (q : Asked) (lent : Lent) → Among made_reasons (asked q lent)
asked-among q lent =
    among_then made_reasons (checked q.model q.gates lent.work) _ (checked-among made_reasons refl refl q.model q.gates lent.work) (λ c.
    among-unless made_reasons 13 (bounded c q.relevant q.pairs q.words) (got c) refl (among-got made_reasons c))

within-among : (lent : Lent) (cs : List Clause) → Among made_reasons (within lent cs)
within-among lent cs =
    among-unless made_reasons 20 (leb (2 * length cs) lent.pairs) _ refl
    (among-unless made_reasons 20 (leb (length (literals_of cs)) lent.literals) (got cs) refl (among-got made_reasons cs))

pub relation_among : (q : Asked) (source : ℕ) (targets : List ℕ) (lent : Lent) → Among made_reasons (relation_row q source targets lent)
unfolding relation_row
relation_among q source targets lent =
    among_then made_reasons (asked q lent) _ (asked-among q lent) (λ c.
    among-unless made_reasons 14 (is_state c source) _ refl
    (among-unless made_reasons 14 (states_claimed c targets) _ refl (within-among lent (relation_clauses c q.relevant (predicate q) source targets))))

pub transducer_among : (q : Asked) (source : ℕ) (observed outcomes : List ℕ) (lent : Lent) → Among made_reasons (transducer_row q source observed outcomes lent)
unfolding transducer_row
transducer_among q source observed outcomes lent =
    among_then made_reasons (asked q lent) _ (asked-among q lent) (λ c.
    among-unless made_reasons 14 (is_state c source) _ refl
    (among-unless made_reasons 14 (outcomes_claimed c observed (outcomes_of outcomes)) _ refl
    (within-among lent (transducer_clauses c q.relevant (predicate q) source observed (outcomes_of outcomes)))))

pub terminal_among : (q : Asked) (bad : ℕ) (states : List ℕ) (lent : Lent) → Among made_reasons (terminal_list q bad states lent)
unfolding terminal_list
terminal_among q bad states lent =
    among_then made_reasons (asked q lent) _ (asked-among q lent) (λ c.
    among-unless made_reasons 14 (ltb bad (length c.outputs)) _ refl
    (among-unless made_reasons 14 (states_claimed c states) _ refl (within-among lent (terminal_clauses c q.relevant (predicate q) bad states))))

-- ---- the witness reader

module _ (reasons : List ℕ) (three : Has reasons 3) (four : Has reasons 4) (five : Has reasons 5) (six : Has reasons 6) (eight : Has reasons 8) (nine : Has reasons 9) (ten : Has reasons 10) (eleven : Has reasons 11) where
  five_to_nine_lem : (ns : Option (List ℕ)) → Among reasons (witness_header.five_to_nine ns)
  five_to_nine_lem None = among-refused reasons 4 four
  five_to_nine_lem (Some ns) =
      among-unless reasons 4 (leb 5 (length ns)) _ four
      (among-unless reasons 4 (leb (length ns) 9) (got (witness_header.counts_from ns)) four (among-got reasons _))

  symbols-among : (n : AagCounts) (ls : List Bytes) → Among reasons (symbols_of n ls)
  unfolding symbols_of
  symbols-among n ls =
      among_then reasons (tail_of n ls) _ (among-only reasons 9 nine (tail_of n ls) (tail-only n ls)) (λ t. among-unless reasons 9 (named_once t.symbols) (got t) nine (among-got reasons t))

  lines-among : (witness : Bool) (n : AagCounts) (ls : List Bytes) → Among reasons (sections_of witness n ls)
  lines-among witness n ls =
      among_then reasons (body_of n ls) _ (body-among reasons eight n ls) (λ d.
      among_then reasons (symbols_of n d.rest) _ (symbols-among n d.rest) (λ t.
      among-unless reasons 10 (plain_comments witness t.comments) _ ten
      (among-unless reasons 11 (well_numbered n d) _ eleven (among-got reasons (sections_from d t.symbols)))))

  aag-among : (witness : Bool) (t : Bytes) → Among reasons (read_aag limited witness t)
  unfolding read_aag
  aag-among witness t =
      among-unless reasons 3 (good_text limited Witness t) _ three
      (among_then reasons (witness_header.header_of (lines_of t)) _ (five_to_nine_lem (first_numbers Witness (lines_of t))) (λ n.
      among-unless reasons 5 (witness_header.counted limited n) _ five
      (among-unless reasons 6 (witness_header.without_liveness n) _ six
      (lines-among witness n (drop 1 (lines_of t))))))

pub witness-among : (witness : Bool) (t : Bytes) → Among witness_reasons (read_aag limited witness t)
witness-among = aag-among witness_reasons refl refl refl refl refl refl refl refl

-- ---- the composer

text_among : (witness : Bool) (t : Bytes) → Among compose_reasons (read_aag limited witness t)
text_among = aag-among compose_reasons refl refl refl refl refl refl refl refl

all_among : (ts : List Bytes) → Among compose_reasons (read_all ts)
all_among [] = among-got compose_reasons _
all_among (t ∷ ts) =
    among_then compose_reasons (read_aag limited true t) _ (text_among true t) (λ s.
    among_then compose_reasons (read_all ts) _ (all_among ts) (λ ss. among-got compose_reasons (s ∷ ss)))

composed-among : (m : Sections) (ws : List Sections) → Among compose_reasons (compose m ws)
unfolding compose
composed-among m ws =
    among-unless compose_reasons 16 (all (maps_right m) ws) _ refl
    (among-unless compose_reasons 17 (gates_fit (leaf_count m ws) (composed_gates m ws)) _ refl
    (among-unless compose_reasons 18 (agree (all_defined (whole m ws))) _ refl
    (among-unless compose_reasons 19 (all (λ s. is_some (safety s)) ws) _ refl (among-got compose_reasons (composed m ws)))))

pub compose-among : (work room : ℕ) (model buffer : Bytes) (pairs : List ℕ) → Among compose_reasons (compose_call work room model buffer pairs)
unfolding compose_call
compose-among work room model buffer pairs =
    among-unless compose_reasons 1 (leb 2 (length (texts_in buffer pairs)) && leb (length (texts_in buffer pairs)) 64) _ refl
    (among-unless compose_reasons 2 (in_order 0 (length buffer) pairs) _ refl
    (among_then compose_reasons (read_aag limited false model) _ (text_among false model) (λ m.
    among_then compose_reasons (read_all (texts_in buffer pairs)) _ (all_among (texts_in buffer pairs)) (λ ws.
    among-unless compose_reasons 15 (leb (16 * sizes (m ∷ ws) + 1024) work) _ refl
    (among_then compose_reasons (compose m ws) _ (composed-among m ws) (λ s.
    among-unless compose_reasons 20 (leb (length (printed s)) room) _ refl (among-got compose_reasons (printed s))))))))
