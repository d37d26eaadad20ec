use Rattle.pg_synth.proofs.Common.{◌≡◌, ℕ, ◌+◌, ◌*◌, ◌%◌, ◌^◌, ◌<◌, get_or, arith, sym, subst, ap, ◌∙◌, get_or_read, mul-add-lt, shl_whole}
use Rattle.pg_synth.proofs.Common.{Machine, IsMachine, reply, no_reply, machine_with, Reply}
use Rattle.pg_synth.proofs.mealy.Mealy.step.Goals as goal

element : (m : Machine) (k i : ℕ) (r : Reply) → IsMachine m → k < m.states → i < 2 ^ m.inputs
    → r ≡ get_or m.replies (k * 2 ^ m.inputs % 2 ^ 64 + i) r → r ≡ reply m k i
element m k i r is lk li e =
    let first : k * 2 ^ m.inputs % 2 ^ 64 ≡ k * 2 ^ m.inputs =
    (let few = is.few_states in let less = is.few_propositions in shl_whole k 32 m.inputs 64 (omega arith) (omega arith)) in
    get_or_read m.replies (k * 2 ^ m.inputs + i) r
    (let l = mul-add-lt k (2 ^ m.inputs) i m.states lk li in let w = is.whole in grind arith)
    (e ∙ ap (λ (n : ℕ). get_or m.replies (n + i) r) first) no_reply

record InRange (m : Machine) (r : Reply) : Type 0 where
  output_in : r.output < 2 ^ m.outputs
  next_in : r.next < m.states

in_range : (m n : Machine) (k i : ℕ) (r : Reply) → m ≡ n → IsMachine m → k < n.states → i < 2 ^ n.inputs
    → r ≡ get_or m.replies (k * 2 ^ m.inputs % 2 ^ 64 + i) r → InRange n r
in_range m n k i r same is lk li e =
    let lk' : k < m.states = subst (λ (x : Machine). k < x.states) (sym same) lk in
    let li' : i < 2 ^ m.inputs = subst (λ (x : Machine). i < 2 ^ x.inputs) (sym same) li in
    let r_is : r ≡ reply m k i = element m k i r is lk' li' e in
    subst (λ (x : Machine). InRange x r) same
    (subst (InRange m) (sym r_is) (record { output_in = is.outputs_in k i lk' li'; next_in = is.nexts_in k i lk' li' }))

pub returns-clause-output_in : goal.returns-clause-output_in
returns-clause-output_in c =
    (in_range (machine_with c.self.inside.states c.self.inside.inputs c.self.inside.outputs c.self.inside.replies.items)
    c.args.self.now c.args.state c.args.input c.index-reply.result.now c.self.view_is c.self.invariant
    c.requires.state c.requires.input c.index-reply.ensures).output_in

pub returns-clause-next_in : goal.returns-clause-next_in
returns-clause-next_in c =
    (in_range (machine_with c.self.inside.states c.self.inside.inputs c.self.inside.outputs c.self.inside.replies.items)
    c.args.self.now c.args.state c.args.input c.index-reply.result.now c.self.view_is c.self.invariant
    c.requires.state c.requires.input c.index-reply.ensures).next_in
