use Rattle.pg_hoa_syntax.proofs.Common.{◌≡◌, ◌∙◌, ◌++◌, ◌∷◌, ℕ, List, ap, rules, codes, append_assoc, flat_map}
use Rattle.std.proofs.lemmas.List.{take_all}
use Rattle.pg_hoa_syntax.specs.Mirrors.HeaderNames.{control_bytes}
use Rattle.pg_hoa_syntax.proofs.Controls.{controls_written}
use Rattle.pg_hoa_syntax.proofs.naming.with_controls.Goals as goal

pub returns : goal.returns
returns c = λ w t.
    let front = codes "HOA: v1\ncontrollable-AP:" in
    let numbers = flat_map control_bytes c.args.controls.now in
    let rest = c.in_ok-rest.rest.now in
    let before : c.loop-number.text.items ≡ front ++ numbers =
    c.loop-number.invariant ∙ ap (λ (ns : List ℕ). front ++ flat_map control_bytes ns)
    (take_all c.loop-number.number-index c.args.controls.now c.loop-number-test.false) in
    let ended : c.extend_from_slice.new.self.items ≡ c.loop-number.text.items ++ codes "\n" = search rules in
    let whole : c.extend_from_slice-2.new.self.items ≡ c.extend_from_slice.new.self.items ++ rest = search rules in
    let written : c.extend_from_slice-2.new.self.items ≡ front ++ (numbers ++ (10 ∷ rest)) =
    rw (whole, ended, before, append_assoc (front ++ numbers) (codes "\n") rest) (append_assoc front numbers (10 ∷ rest)) in
    controls_written c.args.bytes.now rest c.extend_from_slice-2.new.self.items c.args.controls.now w (c.in_ok-rest.ensures w t)
    c.requires written t
