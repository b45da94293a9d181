use Rattle.std.proofs.Common.{List, ℕ, ◌+◌, sym, subst, ap}
use Rattle.lms_sign.specs.Signatures.{LmsOk}
use Rattle.lms_sign.specs.Trees.{LmsTree, lms_public}
use Rattle.lms_sign.proofs.Parsing.{signature_written, signed_ok}
use Rattle.lms_sign.proofs.writing.write_signature.Goals as goal

pub returns-clause-signature : goal.returns-clause-signature
returns-clause-signature c =
    signature_written c.args.height c.args.identifier.now c.args.seed.now c.args.nodes.now c.args.q (c.leaves_in.result + c.args.q) c.args.message.now
    c.to_be_bytes.result c.sign_once.new.into c.type_of.result c.args.into.now c.put.new.into c.put-2.new.into c.put-3.new.into c.write_path.new.into
    c.requires.nodes c.requires.number (ap (λ n. n + c.args.q) c.leaves_in.ensures.value) c.to_be_bytes.ensures c.sign_once.ensures.signature
    c.sign_once.ensures.form.length c.type_of.ensures c.put.ensures c.put-2.ensures c.put-3.ensures c.write_path.ensures

pub returns-clause-verifies : goal.returns-clause-verifies
returns-clause-verifies c =
    let tree : LmsTree = record { height = c.args.height; id = c.args.identifier.now; seed = c.args.seed.now } in
    let P : List ℕ → Type 0 = λ s. LmsOk (lms_public tree) c.args.message.now s in
    subst P (sym (returns-clause-signature c))
    (signed_ok c.args.height c.args.identifier.now c.args.seed.now c.args.nodes.now c.args.q c.args.message.now c.sign_once.new.into c.requires.nodes
    c.told-identifier c.requires.number c.sign_once.ensures.form c.sign_once.ensures.signature c.sign_once.ensures.verifies)
