-- The 256 delays and their printed bytes (3.5.4; document 01, "Delays").
-- A delay is a whole number of twelfths of a sample; its rank is its place in the list, counted from 0.
use Rattle.std.specs.Prelude.{cond, List, [], ◌∷◌, ℕ, ◌+◌, ◌-◌, ◌*◌, leb, get_or}
use Rattle.laws.specs.Place.{place_in}

-- the delays in twelfths, in rising order; the printed .33 and .67 are 4 and 8 twelfths
unfoldable pub delays : List ℕ
delays =
    -- 20 to 25.67 in thirds
    240 ∷ 244 ∷ 248 ∷ 252 ∷ 256 ∷ 260 ∷ 264 ∷ 268 ∷ 272 ∷ 276 ∷ 280 ∷ 284 ∷ 288 ∷ 292 ∷ 296 ∷ 300 ∷ 304 ∷ 308 ∷
    -- 26 to 33.75 in quarters
    312 ∷ 315 ∷ 318 ∷ 321 ∷ 324 ∷ 327 ∷ 330 ∷ 333 ∷ 336 ∷ 339 ∷ 342 ∷ 345 ∷ 348 ∷ 351 ∷ 354 ∷ 357 ∷ 360 ∷ 363 ∷
    366 ∷ 369 ∷ 372 ∷ 375 ∷ 378 ∷ 381 ∷ 384 ∷ 387 ∷ 390 ∷ 393 ∷ 396 ∷ 399 ∷ 402 ∷ 405 ∷
    -- 34 to 79.67 in thirds
    408 ∷ 412 ∷ 416 ∷ 420 ∷ 424 ∷ 428 ∷ 432 ∷ 436 ∷ 440 ∷ 444 ∷ 448 ∷ 452 ∷ 456 ∷ 460 ∷ 464 ∷ 468 ∷ 472 ∷ 476 ∷
    480 ∷ 484 ∷ 488 ∷ 492 ∷ 496 ∷ 500 ∷ 504 ∷ 508 ∷ 512 ∷ 516 ∷ 520 ∷ 524 ∷ 528 ∷ 532 ∷ 536 ∷ 540 ∷ 544 ∷ 548 ∷
    552 ∷ 556 ∷ 560 ∷ 564 ∷ 568 ∷ 572 ∷ 576 ∷ 580 ∷ 584 ∷ 588 ∷ 592 ∷ 596 ∷ 600 ∷ 604 ∷ 608 ∷ 612 ∷ 616 ∷ 620 ∷
    624 ∷ 628 ∷ 632 ∷ 636 ∷ 640 ∷ 644 ∷ 648 ∷ 652 ∷ 656 ∷ 660 ∷ 664 ∷ 668 ∷ 672 ∷ 676 ∷ 680 ∷ 684 ∷ 688 ∷ 692 ∷
    696 ∷ 700 ∷ 704 ∷ 708 ∷ 712 ∷ 716 ∷ 720 ∷ 724 ∷ 728 ∷ 732 ∷ 736 ∷ 740 ∷ 744 ∷ 748 ∷ 752 ∷ 756 ∷ 760 ∷ 764 ∷
    768 ∷ 772 ∷ 776 ∷ 780 ∷ 784 ∷ 788 ∷ 792 ∷ 796 ∷ 800 ∷ 804 ∷ 808 ∷ 812 ∷ 816 ∷ 820 ∷ 824 ∷ 828 ∷ 832 ∷ 836 ∷
    840 ∷ 844 ∷ 848 ∷ 852 ∷ 856 ∷ 860 ∷ 864 ∷ 868 ∷ 872 ∷ 876 ∷ 880 ∷ 884 ∷ 888 ∷ 892 ∷ 896 ∷ 900 ∷ 904 ∷ 908 ∷
    912 ∷ 916 ∷ 920 ∷ 924 ∷ 928 ∷ 932 ∷ 936 ∷ 940 ∷ 944 ∷ 948 ∷ 952 ∷ 956 ∷
    -- 80 to 147 in whole samples
    960 ∷ 972 ∷ 984 ∷ 996 ∷ 1008 ∷ 1020 ∷ 1032 ∷ 1044 ∷ 1056 ∷ 1068 ∷ 1080 ∷ 1092 ∷ 1104 ∷ 1116 ∷
    1128 ∷ 1140 ∷ 1152 ∷ 1164 ∷ 1176 ∷ 1188 ∷ 1200 ∷ 1212 ∷ 1224 ∷ 1236 ∷ 1248 ∷ 1260 ∷ 1272 ∷ 1284 ∷
    1296 ∷ 1308 ∷ 1320 ∷ 1332 ∷ 1344 ∷ 1356 ∷ 1368 ∷ 1380 ∷ 1392 ∷ 1404 ∷ 1416 ∷ 1428 ∷ 1440 ∷ 1452 ∷
    1464 ∷ 1476 ∷ 1488 ∷ 1500 ∷ 1512 ∷ 1524 ∷ 1536 ∷ 1548 ∷ 1560 ∷ 1572 ∷ 1584 ∷ 1596 ∷ 1608 ∷ 1620 ∷
    1632 ∷ 1644 ∷ 1656 ∷ 1668 ∷ 1680 ∷ 1692 ∷ 1704 ∷ 1716 ∷ 1728 ∷ 1740 ∷ 1752 ∷ 1764 ∷ []

-- the printed bytes in the delays' order, down each column over both pages; the letters O are zeros
unfoldable pub bytes : List ℕ
bytes =
    -- first column, first page: 20.00 to 32.00
    0x42 ∷ 0x46 ∷ 0x47 ∷ 0x57 ∷ 0x56 ∷ 0x59 ∷ 0x58 ∷ 0xAE ∷ 0xBE ∷ 0xBA ∷ 0xB8 ∷ 0xBC ∷ 0xAC ∷ 0xA8 ∷ 0x94 ∷
    0x84 ∷ 0x8C ∷ 0x9C ∷ 0x9E ∷ 0x8E ∷ 0x86 ∷ 0x96 ∷ 0x0A ∷ 0x02 ∷ 0x0B ∷ 0x03 ∷ 0x1B ∷ 0x13 ∷ 0x09 ∷ 0x01 ∷
    0x19 ∷ 0x11 ∷ 0xF3 ∷ 0xF7 ∷ 0xE7 ∷ 0xE3 ∷ 0xE5 ∷ 0xE1 ∷ 0xF1 ∷ 0xF5 ∷ 0x61 ∷ 0x65 ∷ 0x75 ∷
    -- first column, second page: 32.25 to 34.33
    0x71 ∷ 0x6D ∷ 0x7D ∷ 0x69 ∷ 0x79 ∷ 0x7B ∷ 0x7F ∷ 0x6B ∷ 0xC1 ∷
    -- second column, first page: 34.67 to 48.67
    0xC0 ∷ 0xC3 ∷ 0xC2 ∷ 0xD2 ∷ 0xD3 ∷ 0xD1 ∷ 0xD0 ∷ 0x30 ∷ 0x32 ∷ 0x3A ∷ 0x31 ∷ 0x33 ∷ 0x3B ∷ 0x3F ∷ 0x37 ∷
    0x3E ∷ 0x36 ∷ 0x34 ∷ 0x4A ∷ 0x4B ∷ 0x4E ∷ 0x4F ∷ 0x5F ∷ 0x5E ∷ 0x5C ∷ 0x5D ∷ 0x54 ∷ 0x55 ∷ 0x50 ∷ 0x51 ∷
    0xAA ∷ 0xA6 ∷ 0xA2 ∷ 0xB6 ∷ 0xB2 ∷ 0xBB ∷ 0xB0 ∷ 0xB9 ∷ 0xB4 ∷ 0xBD ∷ 0xA4 ∷ 0xA0 ∷ 0xA9 ∷
    -- second column, second page: 49.00 to 51.33
    0xAD ∷ 0x95 ∷ 0x85 ∷ 0x9D ∷ 0x8D ∷ 0x89 ∷ 0x99 ∷ 0x88 ∷
    -- third column, first page: 51.67 to 65.67
    0x98 ∷ 0x90 ∷ 0x80 ∷ 0x9A ∷ 0x8A ∷ 0x82 ∷ 0x92 ∷ 0x1A ∷ 0x12 ∷ 0x00 ∷ 0x08 ∷ 0x06 ∷ 0x0E ∷ 0x0F ∷ 0x07 ∷
    0x17 ∷ 0x1F ∷ 0x0D ∷ 0x05 ∷ 0x1D ∷ 0x15 ∷ 0xFB ∷ 0xFF ∷ 0xEB ∷ 0xEF ∷ 0xED ∷ 0xEA ∷ 0xEE ∷ 0xEC ∷ 0xE6 ∷
    0xE2 ∷ 0xE4 ∷ 0xE0 ∷ 0xF4 ∷ 0xF0 ∷ 0x60 ∷ 0x64 ∷ 0x74 ∷ 0x70 ∷ 0x73 ∷ 0x72 ∷ 0x6C ∷ 0x7C ∷
    -- third column, second page: 66.00 to 68.33
    0x68 ∷ 0x78 ∷ 0x7A ∷ 0x7E ∷ 0x6A ∷ 0x6E ∷ 0x6F ∷ 0xC4 ∷
    -- fourth column, first page: 68.67 to 88.00
    0xC5 ∷ 0xC9 ∷ 0xC8 ∷ 0xC7 ∷ 0xCB ∷ 0xC6 ∷ 0xCA ∷ 0xD6 ∷ 0xDA ∷ 0xDB ∷ 0xD7 ∷ 0xD9 ∷ 0xD5 ∷ 0xD8 ∷ 0xD4 ∷
    0x20 ∷ 0x28 ∷ 0x38 ∷ 0x22 ∷ 0x2A ∷ 0x39 ∷ 0x29 ∷ 0x21 ∷ 0x23 ∷ 0x2B ∷ 0x27 ∷ 0x2F ∷ 0x25 ∷ 0x2D ∷ 0x3D ∷
    0x35 ∷ 0x3C ∷ 0x2E ∷ 0x2C ∷ 0x26 ∷ 0x24 ∷ 0x49 ∷ 0x48 ∷ 0x4C ∷ 0x4D ∷ 0x44 ∷ 0x45 ∷ 0x40 ∷
    -- fourth column, second page: 89.00 to 96.00
    0x41 ∷ 0xA7 ∷ 0xA3 ∷ 0xB7 ∷ 0xB3 ∷ 0xB1 ∷ 0xB5 ∷ 0xA5 ∷
    -- fifth column, first page: 97.00 to 139.0
    0xA1 ∷ 0x97 ∷ 0x87 ∷ 0x9F ∷ 0x8F ∷ 0x81 ∷ 0x91 ∷ 0x9B ∷ 0x8B ∷ 0x83 ∷ 0x93 ∷ 0x18 ∷ 0x10 ∷ 0x04 ∷ 0x0C ∷
    0x16 ∷ 0x1E ∷ 0x14 ∷ 0x1C ∷ 0xF9 ∷ 0xFA ∷ 0xFD ∷ 0xE9 ∷ 0xFE ∷ 0xE8 ∷ 0xFC ∷ 0x43 ∷ 0xF2 ∷ 0xF6 ∷ 0xF8 ∷
    0x5B ∷ 0x5A ∷ 0x63 ∷ 0x62 ∷ 0x77 ∷ 0x76 ∷ 0x52 ∷ 0x53 ∷ 0x66 ∷ 0x67 ∷ 0xCC ∷ 0xCD ∷ 0xAB ∷
    -- fifth column, second page: 140.0 to 147.0
    0xCF ∷ 0xCE ∷ 0xDE ∷ 0xBF ∷ 0xDF ∷ 0xDD ∷ 0xDC ∷ 0xAF ∷ []

-- the twelfths of a rank
unfoldable pub twelfths_of : ℕ → ℕ
twelfths_of rank = get_or delays rank 0

-- the same by the four stretches: from 20 in thirds, from 26 in quarters, from 34 in thirds, from 80 in whole samples
unfoldable pub stretched : ℕ → ℕ
stretched rank =
    cond (leb rank 17) (12 * 20 + 4 * rank)
    (cond (leb rank 49) (12 * 26 + 3 * (rank - 18))
    (cond (leb rank 187) (12 * 34 + 4 * (rank - 50)) (12 * 80 + 12 * (rank - 188))))

-- the printed byte of a rank
unfoldable pub printed_byte : ℕ → ℕ
printed_byte rank = get_or bytes rank 0

-- the rank of a printed byte
unfoldable pub rank_of : ℕ → ℕ
rank_of byte = place_in byte bytes

-- the rank of a delay in twelfths, or 256 if it is not in the list
unfoldable pub rank_with : ℕ → ℕ
rank_with delay = place_in delay delays
