use Rattle.wf_doc.proofs.PathLemmas.{boundary_here, boundary_after, whole_piece, cut_piece}
use Rattle.std.proofs.Common.{arith}
use Rattle.wf_doc.proofs.path.split_piece.Goals as goal

pub range-piece-requires-clause-end_boundary : goal.range-piece-requires-clause-end_boundary
range-piece-requires-clause-end_boundary c = boundary_here c.args.text.now c.piece_len-len.result c.piece_len-len.ensures.value c.piece_len-len.ensures.within

pub returns-then-len-text-clause-pieces : goal.returns-then-len-text-clause-pieces
returns-then-len-text-clause-pieces c = λ sign. whole_piece sign c.args.text.now c.range-piece.result.now c.piece_len-len.result c.piece_len-len.ensures.value c.if-len-text.true c.range-piece.ensures.value

pub range_from-requires : goal.range_from-requires
range_from-requires c = λ _. boundary_after c.args.text.now c.piece_len-len.result c.utf8.text c.piece_len-len.ensures.value (omega (arith, c.if-len-text.false))

pub returns-clause-pieces : goal.returns-clause-pieces
returns-clause-pieces c = λ sign. cut_piece sign c.args.text.now c.as_bytes.result.now c.range-piece.result.now c.range_from.result.now c.piece_len-len.result c.piece_len-len.ensures.value c.piece_len-len.ensures.within c.if-len-text.false
    c.range-piece.ensures.value c.as_bytes.ensures.value c.range_from.ensures.value
