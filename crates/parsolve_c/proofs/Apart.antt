-- The fault that is told, from what is told.
use Rattle.std.proofs.Common.{◌≡◌, ℕ, ◌==◌, if◌then◌else◌, unwrap_or, refl, sym, ap, ◌∙◌}
use Rattle.parsolve_c_csr.specs.declared.fault.GameFault.TheVariants.{Lengths, NoVertex, TooManyVertices, TooManyEdges}
use Rattle.parsolve_c_csr.specs.declared.fault.GameFault.TheVariants.{PriorityTooLarge, BadOwner, BadStart, NoSuccessor, UnknownSuccessor}
use Rattle.parsolve_c_csr.specs.declared.fault.ArraysFault.{ArraysFault}
use Rattle.parsolve_c_csr.specs.declared.fault.ArraysFault.TheVariants.{OutOfMemory, Game, SolutionLengths, BadWinner, BadChoice}
use Rattle.parsolve_c.specs.Codes.{code_of, vertex_of, TellsFaultsApart}

-- the fault of a code and a vertex
fault_of : ℕ → ℕ → ArraysFault
fault_of code v =
    if code == 1 then OutOfMemory
    else (if code == 2 then Game Lengths
    else (if code == 3 then Game NoVertex
    else (if code == 4 then Game TooManyVertices
    else (if code == 5 then Game TooManyEdges
    else (if code == 6 then Game (PriorityTooLarge v)
    else (if code == 7 then Game (BadOwner v)
    else (if code == 8 then Game (BadStart v)
    else (if code == 9 then Game (NoSuccessor v)
    else (if code == 10 then Game (UnknownSuccessor v)
    else (if code == 11 then SolutionLengths
    else (if code == 12 then BadWinner v
    else BadChoice v)))))))))))

told_of : (f : ArraysFault) (old : ℕ) → fault_of (code_of f) (unwrap_or (vertex_of f) old) ≡ f
unfolding fault_of
told_of OutOfMemory old = refl
told_of (Game Lengths) old = refl
told_of (Game NoVertex) old = refl
told_of (Game TooManyVertices) old = refl
told_of (Game TooManyEdges) old = refl
told_of (Game (PriorityTooLarge v)) old = refl
told_of (Game (BadOwner v)) old = refl
told_of (Game (BadStart v)) old = refl
told_of (Game (NoSuccessor v)) old = refl
told_of (Game (UnknownSuccessor v)) old = refl
told_of SolutionLengths old = refl
told_of (BadWinner v) old = refl
told_of (BadChoice v) old = refl

pub tells_faults_apart : TellsFaultsApart
tells_faults_apart f g old codes vertices =
    sym (told_of f old) ∙ ap (λ code. fault_of code (unwrap_or (vertex_of f) old)) codes ∙ ap (λ v. fault_of (code_of g) v) vertices
    ∙ told_of g old
