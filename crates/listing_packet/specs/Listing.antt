-- Listing packets (document 02, Point 1: "listing packets after 001's type E"). Assumes nothing.
use Rattle.std.specs.Prelude.{ℕ, ◌+◌, ◌-◌, ◌*◌, ◌/◌, ◌%◌, min, Bool, ◌&&◌, List, [], ◌∷◌, ◌++◌, eqb, ltb, length, take, drop}
use Rattle.causes.specs.Causes.{buffer_or_state, no_header, packet_sum, not_listed, body_fault}
use Rattle.causes.specs.Checks.{Check, number_by}
use Rattle.wire.specs.Bytes.{at24, be16, be24, zeros}
use Rattle.wire.specs.Pieces.{padded}
use Rattle.tables.specs.Tables.{first, table_bytes}
use Rattle.packet.specs.Layout.{body_at, packet_bytes, sequence_counts}
use Rattle.packet.specs.Packet.{enveloped}
use Rattle.decode.specs.Read.{application_of, fields_good, sum_good, zeros_good}

-- "application number 594"
abbrev pub listing_application : ℕ
listing_application = 594

-- "packet i, 0 to 249, of the table's 250"
abbrev pub listing_packets : ℕ
listing_packets = 250

-- "84 words", three bytes each
abbrev pub packet_words : ℕ
packet_words = 84

abbrev pub piece_bytes : ℕ
piece_bytes = 3 * packet_words

-- "from 7000 hex + 84i"
abbrev pub address_of : (i : ℕ) → ℕ
address_of i = first + packet_words * i

-- ---- where its parts stand: "14-15 the frame, 16-18 the first word's address, 19-270 84 words, .. the rest zero"

abbrev pub unused_bytes : ℕ
unused_bytes = 3

abbrev pub frame_at : ℕ
frame_at = body_at + unused_bytes

abbrev pub address_at : ℕ
address_at = frame_at + 2

abbrev pub words_at : ℕ
words_at = address_at + 3

-- ---- the packet

-- how many bytes of the tables packet i has: "the last has 79 words"
abbrev pub piece_size : (i : ℕ) → ℕ
piece_size i = min piece_bytes (table_bytes - piece_bytes * i)

-- its words are the tables' bytes from its address on, ".. and zeros behind"
unfoldable pub piece_of : (i : ℕ) (tables : List ℕ) → List ℕ
piece_of i tables = padded piece_bytes (take (piece_size i) (drop (piece_bytes * i) tables))

unfoldable pub place_bytes : (frame i : ℕ) → List ℕ
place_bytes frame i = zeros unused_bytes ++ be16 frame ++ be24 (address_of i)

-- "the usual header with a time that the caller gives"
unfoldable pub listing_packet : (frame time i : ℕ) (tables : List ℕ) → List ℕ
listing_packet frame time i tables =
    enveloped listing_application (frame % sequence_counts) time (place_bytes frame i ++ piece_of i tables)

-- ---- what a gatherer finds in a packet

abbrev pub address_in : List ℕ → ℕ
address_in xs = at24 xs address_at

-- which of the 250 has the address, if it is one of theirs
abbrev pub place_in : List ℕ → ℕ
place_in xs = (address_in xs - first) / packet_words

-- the words that it has of the tables
abbrev pub words_in : List ℕ → List ℕ
words_in xs = take (piece_size (place_in xs)) (drop words_at xs)

-- 11: "another application number gets 11"
unfoldable pub listing_header : List ℕ → Bool
listing_header xs = eqb (length xs) packet_bytes && fields_good xs && eqb (application_of xs) listing_application

-- 14: "a listing packet's address, is none of these"
unfoldable pub address_listed : List ℕ → Bool
address_listed xs = ltb (place_in xs) listing_packets && eqb (address_in xs) (address_of (place_in xs))

-- 13 "covers the zeros": bytes 11-13, and those behind the last words
unfoldable pub rest_zero : List ℕ → Bool
rest_zero xs =
    zeros_good body_at unused_bytes xs && zeros_good (words_at + piece_size (place_in xs)) (piece_bytes - piece_size (place_in xs)) xs

-- "14 .., after 12 and before 13"; 1 by the length of the lent table buffer
abbrev pub gather_checks : (tables : ℕ) (packet : List ℕ) → List Check
gather_checks tables xs =
    (eqb tables table_bytes, buffer_or_state)
    ∷ (listing_header xs, no_header)
    ∷ (sum_good xs, packet_sum)
    ∷ (address_listed xs, not_listed)
    ∷ (rest_zero xs, body_fault)
    ∷ []

unfoldable pub gather_number : (tables : ℕ) (packet : List ℕ) → ℕ
gather_number tables xs = number_by (gather_checks tables xs)
