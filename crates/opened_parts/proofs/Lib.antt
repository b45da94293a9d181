mod OpenedParts
