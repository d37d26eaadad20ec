-- The names that the proofs of this crate cite from elsewhere, passed on from one place. Declares nothing.
pub use Rattle.std.proofs.Common.{Bor, Global, ap, append_assoc, arith, inl, inr, refl, subst, sym, ◌∙◌}
pub use Rattle.std.proofs.Math.ListN.{drop_of_length-le}
pub use Rattle.std.proofs.Math.Nat.{sub-zero}
pub use Rattle.std.proofs.Math.Seq.{take-append-add}
pub use Rattle.std.proofs.lemmas.Bool.{cases_Bool, cases_eq, cases_lt, eq-eqb, eqb-false, eqb-true, le-leb, le-ltb, leb-true, lt-ltb}
pub use Rattle.std.proofs.lemmas.Bool.{ltb-false, ltb-true, ne_eqb}
pub use Rattle.std.proofs.lemmas.Grind.{flat_map-append}
pub use Rattle.std.proofs.lemmas.List.{append-nil, drop_at, drop_more, get_or-drop, get_or-replicate, get_or-set_other, get_or-set_same}
pub use Rattle.std.proofs.lemmas.List.{get_or-take, get_or_past, length-append, length-drop, length-map, length-set, length-take}
pub use Rattle.std.proofs.lemmas.List.{length-take-le, nil_from_length, take-append-drop, take-append-le, take-take, take_all, take_at}
pub use Rattle.std.proofs.lemmas.List.{take_more, take_more_set}
pub use Rattle.std.proofs.lemmas.List.Concat.{flat_map-cons}
pub use Rattle.std.proofs.lemmas.List.Elements.{All-cons, All-map, All-push, All-weaker}
pub use Rattle.std.proofs.lemmas.List.Folds.{flat_map-map, length-flat_map-take}
pub use Rattle.std.proofs.lemmas.List.FromFn.{fill_by_all, length-map-range_with_len}
pub use Rattle.std.proofs.lemmas.List.Kept.{AllPairs-cons}
pub use Rattle.std.proofs.lemmas.Nat.{be_bytes_4, from_be_bytes-to_be_bytes_4}
pub use Rattle.std.proofs.lemmas.Result.{err_from_is_err_and}
pub use Rattle.std.specs.Int.{from_be_bytes, w32}
pub use Rattle.std.specs.Io.KnownBytes.{Appends, Consumes, IsAtEnd}
pub use Rattle.std.specs.List.{AllPairs, flat_map, range_with_len}
pub use Rattle.std.specs.Prelude.{All, Bool, Err, IfSome, List, None, Ok, Option, Result, Some, Vec, [], cond, drop, false, get_or, length}
pub use Rattle.std.specs.Prelude.{ltb, map, min, nat_eq, nat_le, nat_lt, not, option_map, set, slice_index, suc, take, true, vec_capacity}
pub use Rattle.std.specs.Prelude.{vec_len, zero, ℕ, ⊤, ◌%◌, ◌&&◌, ◌*◌, ◌++◌, ◌+◌, ◌-◌, ◌/◌, ◌<◌, ◌==◌, ◌^◌, ◌||◌, ◌↔◌, ◌∷◌, ◌≡◌, ◌≢◌, ◌≤◌}
pub use Rattle.std.specs.Prelude.{◌⊎◌}
pub use Rattle.pg_wire.specs.Bytes.{IsReadFrom, IsTooLong, IsTruncated, IsWhole, Spells, length_field}
pub use Rattle.pg_wire.specs.Left.{IsLeft, IsNext, is_top, row_of}
pub use Rattle.pg_wire.specs.Lines.{frame_with, head_of, line_with}
pub use Rattle.pg_wire.specs.LinesLeft.{AreLeft, IsNextLine}
pub use Rattle.pg_wire.specs.LinesWritten.{AreWriting}
pub use Rattle.pg_wire.specs.Measured.{IsMeasured, Measured, TellsMeasures, component_in, dense_value, filled, frame_of, kind_number}
pub use Rattle.pg_wire.specs.Measured.{nonzero, nonzero_from, sparse_form, spelled_as, told_sparse, told_values}
pub use Rattle.pg_wire.specs.Mirrors.Between.{IsListNext, IsNextVertex}
pub use Rattle.pg_wire.specs.Mirrors.Buffers.{Extends}
pub use Rattle.pg_wire.specs.Mirrors.Formats.{AreItems, Counted, Format, Kind, all_components, and_then, byte, components, counted_as, headed, listed, some_places}
pub use Rattle.pg_wire.specs.Mirrors.Formats.{nothing, number, odd, placed, places, rising, said, seen, so_many, version}
pub use Rattle.pg_wire.specs.Mirrors.Formats.{within}
unfoldable pub use Rattle.pg_wire.specs.Mirrors.Formats.{body_at, frame_at, go_fields, line_head, measure, report_fields, setup_fields, sparse_fields}
unfoldable pub use Rattle.pg_wire.specs.Mirrors.Formats.{values_fields, vertices_fields}
pub use Rattle.pg_wire.specs.Mirrors.Lengths.{IsCounted}
pub use Rattle.pg_wire.specs.Mirrors.Ordered.{Steps, falling, in_any_order}
pub use Rattle.pg_wire.specs.Mirrors.Reading.{Fails, Gives, HasBytes, Reader, both, is_code, made, number_at, skipped, ◌>>=◌}
unfoldable pub use Rattle.pg_wire.specs.Mirrors.Reading.{byte_at, code_at, counted_at, headed_at, items_at, odd_at, version_at, within_at}
pub use Rattle.pg_wire.specs.Spelling.{body, counted, line, longest, pair, sparse_value, spelling, value, word}
pub use Rattle.pg_wire.specs.Well.{ArePlaces, IsBound, IsComponents, IsCountable, IsFaultCode, IsPlace, IsSetup, IsSparseValue}
pub use Rattle.pg_wire.specs.Well.{IsWell, IsWord}
pub use Rattle.pg_wire.specs.Written.{IsWriting}
pub use Rattle.pg_wire.specs.declared.fault.FieldFault.{FieldFault}
pub use Rattle.pg_wire.specs.declared.fault.FieldFault.TheVariants.{At, Version}
pub use Rattle.pg_wire.specs.declared.fault.ReadFault.{ReadFault}
pub use Rattle.pg_wire.specs.declared.fault.WireFault.{WireFault}
pub use Rattle.pg_wire.specs.declared.fault.WireFault.TheVariants.{OutOfMemory, Read, TooLong, Truncated}
pub use Rattle.pg_wire.specs.declared.frame.Frame.{Frame}
pub use Rattle.pg_wire.specs.declared.frame.LineHead.{LineHead}
pub use Rattle.pg_wire.specs.declared.frame.Setup.{Setup}
pub use Rattle.pg_wire.specs.declared.frame.SparseValue.{SparseValue}
pub use Rattle.pg_wire.specs.declared.frame.Value.{Value}
pub use Rattle.pg_wire.specs.declared.frame.VertexLine.{VertexLine}
pub use Rattle.pg_wire.specs.declared.kind.ValueKind.{ValueKind}
pub use Rattle.pg_wire.specs.declared.kind.ValueKind.TheVariants.{Dense, Sparse}
pub use Rattle.pg_wire.specs.declared.lines_reader.VerticesReader.{VerticesReader}
pub use Rattle.pg_wire.specs.declared.lines_writer.VerticesWriter.{VerticesWriter}
pub use Rattle.pg_wire.specs.declared.reader.ValuesReader.{ValuesReader}
pub use Rattle.pg_wire.specs.declared.writer.ValuesWriter.{ValuesWriter}
