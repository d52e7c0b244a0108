-- Which ring a drive has, and what contracts see of its two ends.
use Rattle.std.specs.Prelude.{◌≡◌, ◌+◌, ◌%◌, ◌^◌, ℕ, List, Option, Some, None, length, sum_by}
use Rattle.std.specs.declared.alloc.Global.{Global}
use Rattle.rtrb.specs.declared.producer.Producer.{Producer}
use Rattle.rtrb.specs.declared.consumer.Consumer.{Consumer}
use Rattle.rtrb.specs.Ends.{SameRing}
use Rattle.volume_core.specs.Medium.{block_bytes, frame_size}
use Rattle.split_bay.specs.declared.items.Item.{Item}
use Rattle.split_bay.specs.declared.protocol.InSpans.{InSpans}
use Rattle.split_bay.specs.Spans.{KeepsLimits, span_of, spans_in}

-- an end that sends (own)
abbrev pub Sender : Type 0
Sender = Producer Item Global InSpans

-- an end that receives (own)
abbrev pub Receiver : Type 0
Receiver = Consumer Item Global InSpans

-- it sends into the ring of the one that may be given (own)
abbrev pub SendsInto : Option Sender → Sender → Type 0
SendsInto None sender = ⊥
SendsInto (Some first) sender = SameRing first.end sender.end

-- it receives from that ring (own)
abbrev pub ReceivesFrom : Option Sender → Receiver → Type 0
ReceivesFrom None receiver = ⊥
ReceivesFrom (Some first) receiver = SameRing first.end receiver.end

-- the hosts' end of a drive's ring: its drive's number, and all items that were sent (own)
pub record SendingState : Type 0 where
  pub number : ℕ
  pub sent : List Item

-- the disk's end of a drive's ring: its drive's number, all items that were received, and those that are known to wait
-- (own)
pub record ReceivingState : Type 0 where
  pub number : ℕ
  pub received : List Item
  pub waiting : List Item

-- The two ends belong to one drive's ring, and the same number of spans began in each. The numbers of 64 bits show this
-- (own).
pub record AreEnds (sending : SendingState) (number : ℕ) (received : List Item) : Type 0 where
  pub number_is : sending.number ≡ number
  pub spans : spans_in sending.sent % 2 ^ 64 ≡ spans_in received % 2 ^ 64

-- What is counted beside the items that were sent: how many spans began, how many records and bytes of blocks may
-- still be sent, and how much room is left (own).
pub record IsCounted (items : List Item) (spans left bytes room : ℕ) : Type 0 where
  pub within : KeepsLimits (span_of items)
  pub spans_are : spans ≡ spans_in items % 2 ^ 64
  pub left_is : left + length (span_of items).since ≡ (span_of items).begin.left
  pub bytes_are : bytes + sum_by block_bytes (span_of items).since ≡ (span_of items).begin.bytes
  pub room_is : room + sum_by frame_size (span_of items).since ≡ (span_of items).begin.room
