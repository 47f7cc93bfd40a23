-- `notice::looks_like_text` goes byte by byte as the definition does.
use Rattle.std.proofs.Common.{◌≡◌, false, drop}
use Rattle.notice.specs.Notices.{looks}
use Rattle.notice.proofs.looks_like_text.Given as goal

abbrev pub invariant-loop-byte : goal.invariant-loop-byte
invariant-loop-byte l = looks false l.bytes ≡ looks l.comment (drop l.byte-index l.bytes)
